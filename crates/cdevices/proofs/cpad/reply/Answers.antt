use mathlib.Core.Path.{refl}
use Rattle.pad.specs.View.{lent_pad}
use Rattle.clinks.proofs.Laws.Done.{done-sound}
use Rattle.cdevices.proofs.Laws.Calls.{pad-small}
use Rattle.cdevices.proofs.cpad.reply.Goals as goal

pub write_back-requires : goal.write_back-requires
write_back-requires c = let u = c.reply-answer in
    pad-small c.limits_of.result (lent_pad u.new.pad) (done-sound _ _ u.result _ _ _ _ _ _ c.if-is_ok.ensures.value refl u.ensures.replies)
