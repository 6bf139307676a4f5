-- Laws on the questions of a reader, one for both kinds of frames.
use Prim.Native.Nat.{ℕ, ◌≤◌}
use mathlib.Core.Path.{◌≡◌, refl, sym, ◌∙◌, ap, subst}
use mathlib.Core.Bool.{Bool, true, false, ◌&&◌, ◌||◌}
use mathlib.Core.List.{List, [], ◌∷◌}
use lib.Dec.{eqb, leb}
use lib.ListN.{length}
use native.Mathlib.Omega.{arith}
use borrow.Author.Tests.{le-leb, lt-leb, eq-eqb, ne_eqb, eqb-true}
use Rattle.limits.specs.Lists.{all}
use Rattle.limits.specs.Questions.{ask, first_no}
use Rattle.limits.proofs.Laws.Choice.{pick_yes, pick_no, both, and-no-left, and-no-right}
use Rattle.limits.proofs.Laws.Questions.{numbered, passed_first}
use Rattle.buffers.specs.Bytes.{byte}
use Rattle.frames.specs.declared.Frame.{Frame}
use Rattle.frames.specs.declared.Frame.TheVariants.{Data, Reply}
use Rattle.frames.specs.Layout.{is_data, is_reply, data_of, reply_of, reading, size_of}
use Rattle.frames.specs.Rules.{value_questions, layout_questions, read_questions}

-- a first byte that 22 takes, and the frame that goes with it
pub record Kind (bytes : List ℕ) (f : Frame) : Type 0 where
  pub known : (leb 1 (length bytes) && (is_data bytes || is_reply bytes)) ≡ true
  pub means : reading bytes ≡ f

or_left : (a b : Bool) → a ≡ true → (a || b) ≡ true
or_left a b e = rw e

or_right : (a b : Bool) → a ≡ false → b ≡ true → (a || b) ≡ true
or_right a b e h = rw (e, h)

neither : (a b : Bool) → a ≡ false → b ≡ false → (a || b) ≡ false
neither a b e h = rw (e, h)

has-byte : (bytes : List ℕ) → 1 ≤ byte bytes 0 → 1 ≤ length bytes
has-byte [] h = absurd (omega arith)
has-byte (b ∷ bytes) h = omega arith

-- what is known of bytes that read accepts
pub accepted : (bytes : List ℕ) → first_no (read_questions bytes) ≡ 0
    → (length bytes ≡ size_of (reading bytes)) × (first_no (value_questions (reading bytes)) ≡ 0)
accepted bytes e =
    let p22 = passed_first 22 (leb 1 (length bytes) && (is_data bytes || is_reply bytes)) (ask 23 (eqb (length bytes) (size_of (reading bytes))) ∷ value_questions (reading bytes)) refl e in
    let p23 = passed_first 23 (eqb (length bytes) (size_of (reading bytes))) (value_questions (reading bytes)) refl p22.1 in
    (eqb-true (length bytes) (size_of (reading bytes)) p23.0, p23.1)

module _ (bytes : List ℕ) where
  pub layout-numbered : numbered (layout_questions bytes) ≡ true
  unfolding all
  layout-numbered = refl

  pub data-kind : byte bytes 0 ≡ 1 → Kind bytes (Data (data_of bytes))
  data-kind e =
      let d : is_data bytes ≡ true = eq-eqb (byte bytes 0) 1 e in
      record {
        known = both (leb 1 (length bytes)) (is_data bytes || is_reply bytes) (le-leb 1 (length bytes) (has-byte bytes (omega arith))) (or_left (is_data bytes) (is_reply bytes) d);
        means = pick_yes (is_data bytes) _ _ _ d refl;
      }

  pub reply-kind : byte bytes 0 ≡ 2 → Kind bytes (Reply (reply_of bytes))
  reply-kind e =
      let d : is_data bytes ≡ false = ne_eqb (byte bytes 0) 1 (λ q. omega arith) in
      record {
        known = both (leb 1 (length bytes)) (is_data bytes || is_reply bytes) (le-leb 1 (length bytes) (has-byte bytes (omega arith))) (or_right (is_data bytes) (is_reply bytes) d (eq-eqb (byte bytes 0) 2 e));
        means = pick_no (is_data bytes) _ _ _ d refl;
      }

  -- 22 answered no: no byte, or another first byte
  pub no_byte : length bytes ≡ 0 → 22 ≡ first_no (layout_questions bytes)
  no_byte e = sym (pick_no _ _ _ _ (and-no-left (leb 1 (length bytes)) (is_data bytes || is_reply bytes) (lt-leb 1 (length bytes) (omega arith))) refl)

  pub no_kind : (byte bytes 0 ≡ 1 → ⊥) → (byte bytes 0 ≡ 2 → ⊥) → 22 ≡ first_no (layout_questions bytes)
  no_kind h k =
      sym
      (pick_no _ _ _ _
      (and-no-right (leb 1 (length bytes)) (is_data bytes || is_reply bytes)
      (neither (is_data bytes) (is_reply bytes) (ne_eqb (byte bytes 0) 1 h) (ne_eqb (byte bytes 0) 2 k)))
      refl)

  module _ (f : Frame) (k : Kind bytes f) where
    -- 23 answered no
    pub wrong-length : (length bytes ≡ size_of f → ⊥) → 23 ≡ first_no (layout_questions bytes)
    wrong-length h =
        sym
        (pick_yes _ _ _ _ k.known
        (pick_no _ _ _ _ (ap (λ g. eqb (length bytes) (size_of g)) k.means ∙ ne_eqb (length bytes) (size_of f) h) refl))

    -- 22 and 23 passed: the values decide
    module _ (h : length bytes ≡ size_of f) where
      as-long : eqb (length bytes) (size_of (reading bytes)) ≡ true
      as-long = ap (λ g. eqb (length bytes) (size_of g)) k.means ∙ eq-eqb (length bytes) (size_of f) h

      pub right-length : 0 ≡ first_no (layout_questions bytes)
      right-length = sym (pick_yes _ _ _ _ k.known (pick_yes _ _ _ _ as-long refl))

      pub values-decide : first_no (read_questions bytes) ≡ first_no (value_questions f)
      values-decide = pick_yes _ _ _ _ k.known (pick_yes _ _ _ _ as-long (ap (λ g. first_no (value_questions g)) k.means))

    pub accepted-kind : first_no (read_questions bytes) ≡ 0 → (length bytes ≡ size_of f) × (first_no (value_questions f) ≡ 0)
    accepted-kind e = subst (λ g. (length bytes ≡ size_of g) × (first_no (value_questions g) ≡ 0)) k.means (accepted bytes e)
