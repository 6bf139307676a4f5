use native.Mathlib.Omega.{arith}
use mathlib.Core.Path.{refl}
use Rattle.limits.specs.Events.{lose_data}
use Rattle.events.proofs.Laws.Parts.{parts}
use Rattle.events.proofs.Laws.Sums.{counts-sum, same-rows, message-lost, same-account}
use Rattle.events.proofs.Laws.Counting.{done-counted, refused-counted}
use Rattle.events.proofs.Laws.Tables.{data-lost, no-data}
use Rattle.events.proofs.LentLink.lose_data.Goals as goal

pub returns-then-self-p-clause-counted : goal.returns-then-self-p-clause-counted
returns-then-self-p-clause-counted c = λ s supply b. refused-counted _ _ supply b (lose_data c.args.p) _ _ (no-data _ c.args.p supply b c.if-self-p.true).answered.number refl

pub remove-requires : goal.remove-requires
remove-requires c = (omega arith, (c.if-self-p.false, c.requires.0))

pub returns-clause-counted : goal.returns-clause-counted
returns-clause-counted c = λ s supply b. let p = parts _ s in
    done-counted _ supply b b (lose_data c.args.p) (tt {0}) _ _ _ _
    (data-lost _ c.args.p supply b p _ c.if-self-p.false (c.remove.ensures.removed c.args.self.now.limits p.datas))
    (λ e. counts-sum _ _ _ _ _ (same-rows _) (message-lost _) (same-account _))
