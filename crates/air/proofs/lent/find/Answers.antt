use mathlib.Core.Path.{◌∙◌, ap}
use native.Mathlib.Omega.{arith}
use Rattle.limits.specs.Tables.{Message}
use Rattle.air.specs.Forms.{messages_of}
use Rattle.air.proofs.Laws.Sound.{place-passed, place-refused}
use Rattle.air.proofs.Laws.Forms.{length-messages, message-read}
use Rattle.air.proofs.lent.find.Goals as goal

pub returns-then-count-p : goal.returns-then-count-p
returns-then-count-p g c =
    let form = g.M.Carried.form in let t = c.args in
    record { number = place-refused (messages_of form t.count t.words.now) t.count (length-messages form t.count t.words.now) c.args.p (let h = c.if-count-p.true in omega arith); value = tt }

pub shared_whole_as_slice-message_at : goal.shared_whole_as_slice-message_at
shared_whole_as_slice-message_at g c = g.M.Roomy.slice

pub returns : goal.returns
returns g c =
    let form = g.M.Carried.form in let t = c.args in
    record {
      number = place-passed (messages_of form t.count t.words.now) t.count (length-messages form t.count t.words.now) c.args.p c.if-count-p.false;
      value = ap (λ (m : Message g.row.M.Denot). m.body) (c.message_at-message.ensures ∙ message-read form t.count t.words.now c.args.p c.if-count-p.false);
    }
