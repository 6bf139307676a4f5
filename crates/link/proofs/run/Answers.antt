use Rattle.link.proofs.Laws.Lent.{put-back}
use Rattle.link.proofs.run.Goals as goal

pub returns : goal.returns
returns c = let u = c.run-result in rw (put-back c.args.k.now u.new.link c.renumber.new.k u.ensures.lent.0 c.renumber.ensures) u.ensures.ran
