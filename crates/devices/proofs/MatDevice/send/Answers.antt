use Rattle.devices.proofs.MatDevice.send.Goals as goal

pub returns : goal.returns
returns c = rw c.send-sent.ensures.stays at c.send-sent.ensures.sends
