use mathlib.Core.Path.{refl}
use Rattle.events.specs.Lent.{lent_link}
use Rattle.clinks.proofs.Laws.Done.{done-sound}
use Rattle.exports.proofs.Laws.Calls.{small}
use Rattle.exports.proofs.run.Goals as goal

pub write_back-requires : goal.write_back-requires
write_back-requires c = let u = c.run-answer in small (lent_link u.new.link) (done-sound _ _ u.result _ _ _ _ _ _ c.if-is_ok.ensures.value refl u.ensures.ran.called)
