-- Laws on what calls for C promise: an opening, and what a call in place leaves.
use Prim.Native.Nat.{ℕ}
use mathlib.Core.Path.{◌≡◌, sym, ◌∙◌, ap}
use mathlib.Core.Bool.{true}
use mathlib.Core.List.{List}
use native.Mathlib.Omega.{arith}
use lib.Dec.{eqb}
use lib.ListN.{replicate}
use borrow.Author.Tests.{eqb-true, eqb-false}
use Rattle.limits.specs.declared.Limits.{Limits}
use Rattle.std.specs.Prelude.{Result, Ok, Err}
use Rattle.limits.specs.declared.answer.Refusal.{Refusal}
use Rattle.limits.specs.Answer.{number_of}
use Rattle.limits.specs.Limits.{limits_questions, accepted}
use Rattle.limits.specs.Questions.{Answered}
use Rattle.limits.proofs.Laws.Choice.{test}
use Rattle.limits.proofs.Laws.Good.{good}
use Rattle.air.specs.Forms.{data_form, reply_form}
use Rattle.air.proofs.Laws.Forms.{count-few}
use Rattle.events.specs.declared.Link.{Link}
use Rattle.events.specs.declared.Counts.{Counts}
use Rattle.events.specs.declared.Numbers.{Numbers}
use Rattle.events.specs.View.{sound_link}
use Rattle.events.proofs.Laws.Parts.{parts, mat-numbers, pad-number}
use Rattle.link.specs.View.{fresh_link}
use Rattle.clinks.specs.Links.{CLink, clink, head_of, link_at, numbers_of, numbers_fit}
use Rattle.clinks.proofs.Laws.Links.{bits-off, stored_back}
use Rattle.clinks.specs.Asked.{limits_or_zeros}
use Rattle.exports.specs.Calls.{OpenCall, Leaves}

-- what a call leaves is the link that it gave
pub left-link : (k : Link) (answer : Result Counts Refusal) (before after : CLink) (counts : List ℕ) (r : ℕ) → Leaves k answer before after counts r → link_at after ≡ k
left-link k answer before after counts r h =
    test (eqb r 0)
    (λ e. ap link_at (h.done (eqb-true r 0 e)) ∙ stored_back k)
    (λ e. ap link_at (h.kept (eqb-false r 0 e)).0 ∙ sym (h.kept (eqb-false r 0 e)).1)

-- the numbers of a sound link are small
pub small : (k : Link) → sound_link k ≡ true → numbers_fit k.limits (numbers_of k)
small k e =
    let p = parts k e in let g = good k.limits p.limits in let m = mat-numbers k p in let q = pad-number k p in
    let d = count-few data_form _ _ k.limits p.datas in let r = count-few reply_form _ _ k.limits p.replies in
    (omega arith, omega arith, omega arith, omega arith, omega arith, omega arith)

-- what `Numbers::default` gives
pub no_numbers : (n : Numbers) → (n.oldest ≡ 0) × ((n.next ≡ 0) × ((n.wanted ≡ 0) × ((n.datas ≡ 0) × (n.replies ≡ 0))))
    → n ≡ record { oldest = 0; next = 0; wanted = 0; datas = 0; replies = 0 }
no_numbers n e = λ i. record { oldest = e.0 i; next = e.1.0 i; wanted = e.1.1.0 i; datas = e.1.1.1.0 i; replies = e.1.1.1.1 i }

-- what an opening stores
pub opened : (asked l : Limits) (a : Result Limits Refusal) (head : List ℕ) (r : ℕ) → Answered (limits_questions asked) a (accepted asked)
    → l ≡ limits_or_zeros a → head ≡ head_of l (record { oldest = 0; next = 0; wanted = 0; datas = 0; replies = 0 }) → r ≡ number_of a
    → OpenCall asked
    (clink head (replicate 32 0) (replicate 32 0) (replicate 512 0) (replicate 32 0) (replicate 32 0) (replicate 512 0) (replicate 576 0) (replicate 96 0)) r
opened asked l (Ok m) head r c z e q =
    record {
      opening = Ok (fresh_link m);
      promise = record { number = c.number; value = ap fresh_link c.value };
      number = q;
      left =
          λ i. clink ((e ∙ ap (λ x. head_of x (record { oldest = 0; next = 0; wanted = 0; datas = 0; replies = 0 })) z) i) (bits-off i) (replicate 32 0) (replicate 512 0) (bits-off i) (replicate 32 0) (replicate 512 0) (replicate 576 0) (replicate 96 0);
    }
opened asked l (Err refusal) head r c z e q =
    record {
      opening = Err refusal;
      promise = record { number = c.number; value = c.value };
      number = q;
      left =
          λ i. clink ((e ∙ ap (λ x. head_of x (record { oldest = 0; next = 0; wanted = 0; datas = 0; replies = 0 })) z) i) (bits-off i) (replicate 32 0) (replicate 512 0) (bits-off i) (replicate 32 0) (replicate 512 0) (replicate 576 0) (replicate 96 0);
    }
