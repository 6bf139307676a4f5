-- Laws on what calls for C promise: an opening, and the numbers of a sound device.
use Prim.Native.Nat.{ℕ, ◌<◌}
use mathlib.Core.Path.{◌≡◌, refl, sym, ◌∙◌, ap}
use mathlib.Core.Bool.{true, false, false≢true}
use mathlib.Core.List.{List, [], ◌∷◌}
use native.Mathlib.Omega.{arith}
use lib.Dec.{eqb}
use borrow.Author.Tests.{eqb-true, eqb-false}
use lib.ListN.{length, replicate}
use Rattle.std.specs.Prelude.{Result, Ok, Err, OnErr}
use Rattle.std.specs.Result.{is_ok, result_unwrap_or}
use Rattle.limits.specs.declared.answer.Refusal.{Refusal}
use Rattle.limits.specs.declared.Limits.{Limits}
use Rattle.limits.specs.Answer.{number_of}
use Rattle.limits.specs.Limits.{limits_questions, accepted, zero_limits}
use Rattle.limits.specs.Questions.{Answered}
use Rattle.limits.proofs.Laws.Choice.{two}
use Rattle.limits.proofs.Laws.Good.{good}
use Rattle.limits.proofs.Laws.Promise.{is_ok-number}
use Rattle.mat.specs.declared.Mat.{Mat}
use Rattle.mat.specs.View.{fresh_mat}
use Rattle.mat.proofs.Laws.Sound as mats
use Rattle.pad.specs.declared.Pad.{Pad}
use Rattle.pad.specs.View.{fresh_pad}
use Rattle.pad.proofs.Laws.Sound as pads
use Rattle.devices.specs.declared.MatDevice.{MatDevice}
use Rattle.devices.specs.Mats as mat
use Rattle.devices.specs.Pads as pad
use Rattle.clinks.specs.Asked.{limits_or_zeros}
use Rattle.clinks.specs.Links.{limits_at}
use Rattle.clinks.proofs.Laws.Links.{bits-off}
use Rattle.cdevices.specs.Devices.{CDevice, cdevice, mat_at, stored_mat, stored_pad}
use Rattle.clinks.specs.Links.{limits_list}
use Rattle.cdevices.specs.Calls.{Opens, MatOpen, PadOpen, InPlace, Told, MatSend, MatReceive}

-- what an opening stores
opens : {D : Type 0} (make : Limits → D) (stored : D → CDevice) (asked : Limits) (a : Result Limits Refusal) (after : CDevice) (r : ℕ)
    → Answered (limits_questions asked) a (accepted asked) → after ≡ stored (make (limits_or_zeros a)) → r ≡ number_of a
    → Opens (λ o. Answered (limits_questions asked) o (make (accepted asked))) (make zero_limits) stored after r
opens make stored asked (Ok l) after r c e q =
    record { opening = Ok (make l); promise = record { number = c.number; value = ap make c.value }; number = q; left = e }
opens make stored asked (Err refusal) after r c e q =
    record { opening = Err refusal; promise = record { number = c.number; value = c.value }; number = q; left = e }

module _ (asked l : Limits) (a : Result Limits Refusal) (limits : List ℕ) (r : ℕ) (c : Answered (limits_questions asked) a (accepted asked))
    (e : l ≡ limits_or_zeros a) (s : limits ≡ limits_list l) (q : r ≡ number_of a) where
  pub mat-opened : MatOpen asked (cdevice limits (replicate 2 0) (replicate 32 0) (replicate 32 0) (replicate 512 0)) r
  mat-opened =
      opens (λ x. mat.mat_device x fresh_mat) stored_mat asked a _ r c
      (λ i. cdevice ((s ∙ ap limits_list e) i) (0 ∷ 0 ∷ []) (bits-off i) (replicate 32 0) (replicate 512 0)) q

  pub pad-opened : PadOpen asked (cdevice limits (replicate 1 0) (replicate 32 0) (replicate 32 0) (replicate 512 0)) r
  pad-opened =
      opens (λ x. pad.pad_device x fresh_pad) stored_pad asked a _ r c
      (λ i. cdevice ((s ∙ ap limits_list e) i) (0 ∷ []) (bits-off i) (replicate 32 0) (replicate 512 0)) q

-- the numbers of a sound device are small
pub mat-small : (l : Limits) (m : Mat) → mat.sound_device (mat.mat_device l m) ≡ true → (m.oldest < 65536) × (m.next < 65536)
mat-small l m e = let t = two _ _ e in let g = good l t.0 in let f = (mats.facts l m t.0 t.1).numbers in (omega arith, omega arith)

pub pad-small : (l : Limits) (p : Pad) → pad.sound_device (pad.pad_device l p) ≡ true → p.wanted < 65536
pad-small l p e = let t = two _ _ e in let g = good l t.0 in let f = pads.facts l p t.1 in omega arith

-- five numbers are the limits that they make
limits-back : (h : List ℕ) → length h ≡ 5 → h ≡ limits_list (limits_at h)
limits-back (a ∷ b ∷ c ∷ d ∷ e ∷ []) n = refl
limits-back [] n = absurd (omega arith)
limits-back (a ∷ []) n = absurd (omega arith)
limits-back (a ∷ b ∷ []) n = absurd (omega arith)
limits-back (a ∷ b ∷ c ∷ []) n = absurd (omega arith)
limits-back (a ∷ b ∷ c ∷ d ∷ []) n = absurd (omega arith)
limits-back (a ∷ b ∷ c ∷ d ∷ e ∷ f ∷ rest) n = absurd (omega arith)

pub stored-limits : (h : List ℕ) (l : Limits) (numbers mark timer cell : List ℕ) → length h ≡ 5 → l ≡ limits_at h
    → cdevice h numbers mark timer cell ≡ cdevice (limits_list l) numbers mark timer cell
stored-limits h l numbers mark timer cell n e = λ i. cdevice ((limits-back h n ∙ ap limits_list (sym e)) i) numbers mark timer cell

-- what a refusal kept
pub kept : {X P : Type 0} (a : Result X Refusal) → false ≡ is_ok a → OnErr a P → P
kept (Ok x) e k = absurd (false≢true e)
kept (Err r) e k = k

-- a call in place, done and refused
module _ {D X : Type 0} (call : D → Result X Refusal → Type 0) (told : Result X Refusal → Type 0) (at : CDevice → D) (stored : D → CDevice)
    (before after : CDevice) (x : D) (a : Result X Refusal) (r : ℕ) (p : call x a) (t : told a) (n : r ≡ number_of a) where
  flag : eqb r 0 ≡ is_ok a
  flag = ap (λ m. eqb m 0) n ∙ is_ok-number a

  pub done-in-place : true ≡ is_ok a → after ≡ stored x → InPlace call told at stored before after r
  done-in-place e s =
      record {
        device = x;
        answer = a;
        promise = p;
        number = n;
        tells = t;
        done = λ _. s;
        refused = λ ne. absurd (ne (eqb-true r 0 (flag ∙ sym e)));
      }

  pub refused-in-place : false ≡ is_ok a → after ≡ before → x ≡ at before → InPlace call told at stored before after r
  refused-in-place e s k =
      record {
        device = x;
        answer = a;
        promise = p;
        number = n;
        tells = t;
        done = λ z. absurd (eqb-false r 0 (flag ∙ sym e) z);
        refused = λ _. (s, k);
      }

-- a mat's calls that change one of its numbers
module _ (x x' : MatDevice) (before after : CDevice) (r : ℕ) (e : x ≡ mat_at before) (a : Result ℕ Refusal) (count : ℕ) (t : count ≡ result_unwrap_or a 0) (n : r ≡ number_of a) where
  module _ (supply frame frame' : List ℕ) (p : mat.SendCall x supply frame x' frame' a) where
    abbrev sends : MatDevice → Result ℕ Refusal → Type 0
    sends y b = mat.SendCall (mat_at before) supply frame y frame' b

    pub send-done : true ≡ is_ok a → after ≡ stored_mat x' → MatSend supply frame frame' count before after r
    send-done f s = done-in-place sends (Told count) mat_at stored_mat before after x' a r (rw e at p) t n f s

    pub send-refused : false ≡ is_ok a → (x' ≡ x → after ≡ before) → MatSend supply frame frame' count before after r
    send-refused f s =
        let k = ap (λ (y : MatDevice × List ℕ). y.0) (kept a f p.kept) in
        refused-in-place sends (Told count) mat_at stored_mat before after x' a r (rw e at p) t n f (s k) (k ∙ e)

  module _ (bytes : List ℕ) (p : mat.ReceiveCall x bytes x' a) where
    abbrev receives : MatDevice → Result ℕ Refusal → Type 0
    receives y b = mat.ReceiveCall (mat_at before) bytes y b

    pub receive-done : true ≡ is_ok a → after ≡ stored_mat x' → MatReceive bytes count before after r
    receive-done f s = done-in-place receives (Told count) mat_at stored_mat before after x' a r (rw e at p) t n f s

    pub receive-refused : false ≡ is_ok a → (x' ≡ x → after ≡ before) → MatReceive bytes count before after r
    receive-refused f s =
        let k = kept a f p.kept in refused-in-place receives (Told count) mat_at stored_mat before after x' a r (rw e at p) t n f (s k) (k ∙ e)
