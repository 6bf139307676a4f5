use Rattle.devices.proofs.Laws.Frames.{data-asked}
use Rattle.devices.proofs.frame.write_data.Goals as goal

pub data-requires : goal.data-requires
data-requires c = (data-asked c.args.l c.requires.0 c.args.«data» c.requires.1, c.requires.2)
