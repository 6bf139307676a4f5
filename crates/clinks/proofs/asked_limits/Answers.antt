use mathlib.Core.Path.{◌∙◌}
use Rattle.clinks.specs.Asked.{asked}
use Rattle.clinks.proofs.asked_limits.Goals as goal

pub returns : goal.returns
unfolding asked
returns c = λ i. record { window = (c.from.ensures ∙ c.capped.ensures) i; datalife = c.capped-2.ensures i; replylife = c.capped-3.ensures i; replywait = c.capped-4.ensures i; resendwait = c.capped-5.ensures i }
