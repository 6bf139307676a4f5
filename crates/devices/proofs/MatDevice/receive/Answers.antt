use Rattle.devices.proofs.MatDevice.receive.Goals as goal

pub returns : goal.returns
returns c = rw c.receive-passed.ensures.stays at c.receive-passed.ensures.receives
