use Rattle.limits.proofs.Laws.Good.{passes}
use Rattle.limits.specs.Questions.{pick}
use Rattle.limits.specs.Answer.{number_of}
use Rattle.limits.specs.Limits.{accepted}
use borrow.Author.Tests.{eq-eqb, ne_eqb}
use mathlib.Core.Path.{◌∙◌, sym, ap}
use Rattle.limits.proofs.accept.Goals as goal

pub least_wait-resendwait-requires : goal.least_wait-resendwait-requires
least_wait-resendwait-requires c = (passes _ (sym c.asked.ensures ∙ ap number_of c.in_ok-asked.was)).times

pub returns-then-l-eq0 : goal.returns-then-l-eq0
unfolding accepted pick
returns-then-l-eq0 c =
    record { number = sym (sym c.asked.ensures ∙ ap number_of c.in_ok-asked.was); value = rw (c.least_wait-resendwait.ensures, eq-eqb _ _ c.if-l-eq0.true) }

pub returns-else-l-eq0 : goal.returns-else-l-eq0
unfolding accepted pick
returns-else-l-eq0 c =
    record { number = sym (sym c.asked.ensures ∙ ap number_of c.in_ok-asked.was); value = rw (ne_eqb _ _ c.if-l-eq0.false) }
