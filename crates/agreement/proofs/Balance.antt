-- The account of the air balances: in an event, in a run, and in every list of calls.
use Prim.Native.Nat.{ℕ, ◌*◌, ◌%◌}
use mathlib.Core.Path.{◌≡◌, refl, sym, ◌∙◌, ap}
use mathlib.Core.List.{List, [], ◌∷◌, ◌++◌}
use native.Mathlib.Omega.{arith}
use lib.Dec.{eqb}
use lib.ListN.{length, drop}
use Rattle.std.specs.Prelude.{Ok, Err}
use Rattle.limits.specs.Events.{event, events}
use Rattle.limits.proofs.Laws.Questions.{passed_first}
use Rattle.air.specs.Data.{data_messages}
use Rattle.air.specs.Replies.{reply_messages}
use Rattle.events.specs.declared.Link.{Link}
use Rattle.events.specs.declared.Counts.{Counts}
use Rattle.events.specs.State.{LinkState, unmoved}
use Rattle.events.specs.Counts.{Balances, no_counts, risen}
use Rattle.events.specs.Rules.{questions, acted}
use Rattle.events.specs.Account.{data_account, reply_account}
use Rattle.events.specs.View.{link_state, sound_link}
use Rattle.events.proofs.Laws.Balancing.{data-balances, reply-balances, datas-balance, replies-balance, balances-on}
use Rattle.events.proofs.Laws.Sums.{from-none}
use Rattle.lists.specs.Account.{account}
use Rattle.lists.specs.Runs.{after_all}
use Rattle.lists.proofs.Laws.Accounts.{balances}
use Rattle.limits.specs.Questions.{whole_rows}
use Rattle.agreement.specs.Calls.{Call, run, single, Made, Line, start, following, Met, Chain, end_of, all_events}
use Rattle.agreement.proofs.Theorem.{from-opened}
use Rattle.agreement.specs.Balance.{Balanced, StepsBalance, RunsBalance, ChainsBalance, ChainsCount}

-- a refused call leaves the link as it was, and counts nothing
still : (k k' : Link) → k' ≡ k → Balanced k no_counts k'
still k k' e =
    record {
      datas = let h = ap (λ (y : Link). length (data_messages y.datas)) e in omega arith;
      replies = let h = ap (λ (y : Link). length (reply_messages y.replies)) e in omega arith;
    }

-- by what the link shows
shown : (k k' : Link) (n : Counts) (s : LinkState) → link_state k' ≡ s → Balances (length (link_state k).datas) n.datas (length s.datas)
    → Balances (length (link_state k).replies) n.replies (length s.replies) → Balanced k n k'
unfolding link_state
shown k k' n s e p q =
    record {
      datas = let h = ap (λ (t : LinkState). length t.datas) e in omega arith;
      replies = let h = ap (λ (t : LinkState). length t.replies) e in omega arith;
    }

pub steps-balance : StepsBalance
steps-balance k kind argument supply before after k' (Ok n) m =
    let e = event kind argument in
    let own = questions supply (length before) (link_state k) e in
    let behind = (passed_first 4 (sound_link k) (whole_rows supply ++ own) refl (sym m.answered.number)).1 in
    let passed = (passed_first 6 (eqb (length supply % 16) 0) own refl behind).1 in
    shown k k' n (acted supply before (link_state k) e).state (ap (λ (x : LinkState × List ℕ). x.0) m.left)
    (rw m.answered.value (data-balances supply before (link_state k) e passed).balances)
    (rw m.answered.value (reply-balances supply before (link_state k) e passed).balances)
steps-balance k kind argument supply before after k' (Err x) m = still k k' (ap (λ (y : Link × List ℕ). y.0) m.kept)

pub runs-balance : RunsBalance
runs-balance k bytes supply before after answers_before answers_after k' (Ok n) m =
    let x = unmoved (link_state k) before in
    let c = m.called in
    shown k k' n (after_all supply x (events bytes)).state (ap (λ (y : LinkState × List ℕ × List ℕ). y.0) c.left)
    (rw c.answered.value (balances data_account (λ (t : LinkState). length t.datas) datas-balance supply x (events bytes)))
    (rw c.answered.value (balances reply_account (λ (t : LinkState). length t.replies) replies-balance supply x (events bytes)))
runs-balance k bytes supply before after answers_before answers_after k' (Err x) m =
    still k k' (ap (λ (y : Link × List ℕ × List ℕ). y.0) m.called.kept)

call-balances : (k : Link) (supply buffer : List ℕ) (c : Made) (call : Call) → Met k supply buffer c call → Balanced k (risen c.result) c.link
call-balances k supply buffer c (run bytes answers) m = runs-balance k bytes supply buffer c.buffer answers c.answers c.link c.result m
call-balances k supply buffer c (single kind argument) m = steps-balance k kind argument supply buffer c.buffer c.link c.result m

-- from where the calls have come to
on-from : (k : Link) (supply : List ℕ) (x : Line) (cs : List Made) → Balanced k x.counts x.link → Chain supply x cs
    → Balanced k (end_of x cs).counts (end_of x cs).link
on-from k supply x [] b h = b
on-from k supply x (c ∷ cs) b h =
    let d = call-balances x.link (drop (16 * x.counts.sent) supply) (drop (16 * x.counts.recorded) x.buffer) c c.call h.0 in
    on-from k supply (following x c) cs
    (record { datas = balances-on _ _ _ _ _ b.datas d.datas; replies = balances-on _ _ _ _ _ b.replies d.replies }) h.1

pub chains-balance : ChainsBalance
chains-balance k supply first cs h = on-from k supply (start k first) cs (still k k refl) h

pub chains-count : ChainsCount
chains-count asked k o supply first cs chain =
    let c = from-opened asked k o supply first cs chain in (
      c.datas ∙ sym (from-none (account data_account supply (unmoved (link_state k) first) (all_events supply cs))),
      c.replies ∙ sym (from-none (account reply_account supply (unmoved (link_state k) first) (all_events supply cs))),
    )
