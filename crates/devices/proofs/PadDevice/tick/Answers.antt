use Rattle.devices.proofs.PadDevice.tick.Goals as goal

pub returns : goal.returns
returns c = rw c.tick.ensures.stays at c.tick.ensures.ticks
