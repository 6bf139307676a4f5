use Rattle.devices.proofs.PadDevice.receive.Goals as goal

pub returns : goal.returns
returns c = rw c.receive.ensures.stays at c.receive.ensures.receives
