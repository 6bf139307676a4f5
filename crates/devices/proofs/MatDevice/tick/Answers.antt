use Rattle.devices.proofs.MatDevice.tick.Goals as goal

pub returns : goal.returns
returns c = rw (c.tick.ensures.stays.0, c.tick.ensures.stays.1) at c.tick.ensures.ticks
