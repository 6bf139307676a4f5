use Rattle.devices.proofs.MatDevice.resend.Goals as goal

pub returns : goal.returns
returns c = rw (c.resend.ensures.stays.0, c.resend.ensures.stays.1) at c.resend.ensures.sends
