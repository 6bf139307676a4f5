use Rattle.devices.proofs.Laws.Frames.{reply-asked}
use Rattle.devices.proofs.frame.write_reply.Goals as goal

pub reply-requires : goal.reply-requires
reply-requires c = (reply-asked c.args.l c.requires.0 c.args.reply c.requires.1, c.requires.2)
