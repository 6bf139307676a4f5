-- Laws on frames as head and cells.
use Prim.Native.Nat.{ℕ}
use mathlib.Core.Path.{◌≡◌, refl, sym, ◌∙◌, ap, ap₂, subst}
use mathlib.Core.Bool.{true, false}
use native.Mathlib.Omega.{arith}
use mathlib.Core.List.{List, [], ◌∷◌}
use lib.Dec.{eqb}
use lib.ListN.{length, take, replicate}
use borrow.Author.Tests.{eq-eqb, ne_eqb}
use Rattle.std.specs.Prelude.{Result, Ok}
use Rattle.limits.specs.declared.answer.Refusal.{Refusal}
use Rattle.limits.specs.Answer.{refusal_number}
use Rattle.limits.specs.Lists.{all}
use Rattle.limits.specs.Questions.{pick, first_no, Answered}
use Rattle.limits.proofs.Laws.Choice.{pick_yes, pick_no}
use Rattle.limits.proofs.Laws.Promise.{refusal-not-0}
use Rattle.limits.proofs.Laws.Questions.{numbered, more_stays, behind-passed}
use Rattle.buffers.specs.Buffers.{Writing, writing, WriteCall}
use Rattle.buffers.proofs.Laws.Writing.{write-as}
use Rattle.frames.specs.declared.Frame.{Frame}
use Rattle.frames.specs.declared.Frame.TheVariants.{Data, Reply}
use Rattle.frames.specs.Layout as layout
use Rattle.frames.specs.Layout.{size_of, reading}
use Rattle.frames.specs.Rules as frames
use Rattle.frames.specs.Rules.{read_questions, value_questions}
use Rattle.frames.specs.Meanings.{HasRow}
use Rattle.frames.proofs.Laws.Reading.{accepted}
use Rattle.frames.proofs.Theorems.{read-back}
use Rattle.cframes.specs.Frames.{fields, head_of, cells_of, fields_of, ReadFrame, kind_in, data_in, reply_in, frame_in, kind_questions, write_questions, frame_into, WriteFrame}

-- a frame that was read: its values pass their questions, and head and cells get them
module _ (bytes h cells : List ℕ) where
  module _ (f : Frame) (p : Answered (read_questions bytes) (Ok f) (reading bytes)) where
    pub read-asked : first_no (value_questions f) ≡ 0
    read-asked = ap (λ g. first_no (value_questions g)) p.value ∙ (accepted bytes (sym p.number)).1

    pub read_done : (h' cells' : List ℕ) → h' ≡ head_of f → cells' ≡ cells_of f → ReadFrame bytes h cells h' cells' 0
    read_done h' cells' e s =
        record {
          number = p.number;
          left = ap₂ fields e s ∙ ap fields_of p.value ∙ sym (pick_yes _ _ _ _ (eq-eqb _ _ (sym p.number)) refl);
        }

  pub read-refused : (refusal : Refusal) (r : ℕ) → refusal_number refusal ≡ first_no (read_questions bytes) → r ≡ refusal_number refusal
      → ReadFrame bytes h cells h cells r
  read-refused refusal r e s =
      record { number = s ∙ e; left = sym (pick_no _ _ _ _ (ap (λ n. eqb n 0) (sym e) ∙ refusal-not-0 refusal) refl) }

-- the frame that head and cells make
module _ (h cells : List ℕ) where
  pub data-made : kind_in h ≡ 1 → (0 ≡ first_no (kind_questions h)) × (Data (data_in h cells) ≡ frame_in h cells)
  unfolding pick frame_in
  data-made k = let d = eq-eqb (kind_in h) 1 k in (rw d, rw d)

  pub reply-made : kind_in h ≡ 2 → (0 ≡ first_no (kind_questions h)) × (Reply (reply_in h) ≡ frame_in h cells)
  unfolding pick frame_in
  reply-made k =
      let d : eqb (kind_in h) 1 ≡ false = ne_eqb (kind_in h) 1 (λ q. omega arith) in
      let e = eq-eqb (kind_in h) 2 k in
      (rw (d, e), rw d)

  pub no_kind : (kind_in h ≡ 1 → ⊥) → (kind_in h ≡ 2 → ⊥) → 22 ≡ first_no (kind_questions h)
  unfolding pick
  no_kind n m = let d = ne_eqb (kind_in h) 1 n in let e = ne_eqb (kind_in h) 2 m in rw (d, e)

  kind-numbered : numbered (kind_questions h) ≡ true
  unfolding all
  kind-numbered = refl

  -- what is written of it
  pub kind-refused : (before : List ℕ) (refusal : Refusal) → refusal_number refusal ≡ first_no (kind_questions h)
      → refusal_number refusal ≡ first_no (write_questions h cells before)
  kind-refused before refusal e = more_stays (kind_questions h) _ e (frames.write_questions (frame_in h cells) before) (refusal-not-0 refusal)

  pub frame-written : (before after : List ℕ) (r : Result ℕ Refusal) (f : Frame) → 0 ≡ first_no (kind_questions h) → f ≡ frame_in h cells
      → WriteCall (frames.write_questions f before) (writing (size_of f) (layout.frame_into f before)) r before after
      → WriteCall (write_questions h cells before) (frame_into h cells before) r before after
  frame-written before after r f e q p =
      write-as _ _ _ r before after
      (sym (behind-passed (kind_questions h) (frames.write_questions (frame_in h cells) before) kind-numbered (sym e)))
      (subst (λ g. WriteCall (frames.write_questions g before) (writing (size_of g) (layout.frame_into g before)) r before after) q p)

-- What one call wrote, the other reads back: head and cells, and 0 for what the kind does not have.
module _ (count : ℕ) (before after h cells h' cells' : List ℕ) (r : ℕ) (p : ReadFrame (take count after) h cells h' cells' r) where
  read_back : (f : Frame) → HasRow f → first_no (frames.write_questions f before) ≡ 0
      → writing count after ≡ writing (size_of f) (layout.frame_into f before) → (r ≡ 0) × (fields h' cells' ≡ fields_of f)
  read_back f l e s =
      let a = read-back f before l e in
      let z : first_no (read_questions (take count after)) ≡ 0 = ap (λ (y : Writing). first_no (read_questions (take y.count y.buffer))) s ∙ a.accepted in (
        p.number ∙ z,
        p.left ∙ pick_yes _ _ _ _ (eq-eqb _ _ z) (ap (λ (y : Writing). fields_of (reading (take y.count y.buffer))) s ∙ ap fields_of a.means),
      )

  module _ (life w a b : ℕ) (row : List ℕ) where
    pub data-back : length row ≡ 16 → WriteFrame (1 ∷ life ∷ w ∷ a ∷ b ∷ []) row before after count 0
        → (r ≡ 0) × (fields h' cells' ≡ fields (1 ∷ life ∷ w ∷ a ∷ 0 ∷ []) row)
    unfolding pick frame_in
    data-back l q =
        read_back (Data (data_in (1 ∷ life ∷ w ∷ a ∷ b ∷ []) row)) l (sym q.number) (q.result ∙ pick_yes _ _ _ _ (eq-eqb _ _ (sym q.number)) refl)

    pub reply-back : WriteFrame (2 ∷ life ∷ w ∷ a ∷ b ∷ []) row before after count 0
        → (r ≡ 0) × (fields h' cells' ≡ fields (2 ∷ life ∷ w ∷ a ∷ b ∷ []) (replicate 16 0))
    unfolding pick frame_in
    reply-back q =
        read_back (Reply (reply_in (2 ∷ life ∷ w ∷ a ∷ b ∷ []))) tt (sym q.number) (q.result ∙ pick_yes _ _ _ _ (eq-eqb _ _ (sym q.number)) refl)
