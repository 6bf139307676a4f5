use Rattle.limits.specs.Limits.{sound_limits}
use Rattle.limits.proofs.Laws.Choice.{and-goes-on, and-no-left}
use Rattle.limits.proofs.Laws.Promise.{is_ok-number}
use lib.Dec.{eqb}
use mathlib.Core.Path.{◌∙◌, sym, ap}
use Rattle.limits.proofs.sound_limits.Goals as goal

pub returns-then-is_ok : goal.returns-then-is_ok
unfolding sound_limits
returns-then-is_ok c =
    and-goes-on _ _ (ap (λ n. eqb n 0) (sym c.asked.ensures) ∙ is_ok-number c.asked.result ∙ sym c.is_ok.ensures.value ∙ c.if-is_ok.true)

pub returns-else-is_ok : goal.returns-else-is_ok
unfolding sound_limits
returns-else-is_ok c =
    c.if-is_ok.false ∙ sym (and-no-left _ _ (ap (λ n. eqb n 0) (sym c.asked.ensures) ∙ is_ok-number c.asked.result ∙ sym c.is_ok.ensures.value ∙ c.if-is_ok.false))
