-- A link whose arrays were lent, and whose numbers were put back.
use mathlib.Core.Path.{◌≡◌, sym, ◌∙◌}
use Rattle.mat.specs.View.{mat_of}
use Rattle.pad.specs.View.{pad_of}
use Rattle.air.specs.Data.{data_table}
use Rattle.air.specs.Replies.{reply_table}
use Rattle.events.specs.declared.Link.{Link}
use Rattle.events.specs.declared.LentLink.{LentLink}
use Rattle.events.specs.Lent.{lent_link}
use Rattle.link.specs.View.{renumbered}

-- the link in which the lent arrays lie, its own numbers still in it
abbrev pub written : Link → LentLink → Link
written k a =
    record {
      limits = k.limits;
      mat = mat_of k.mat.oldest k.mat.next a.marks.now a.mattimers.now a.matcells.now;
      pad = pad_of k.pad.wanted a.held.now a.padtimers.now a.padcells.now;
      datas = data_table k.datas.count a.datas.now;
      replies = reply_table k.replies.count a.replies.now;
    }

pub put-back : (k : Link) (a : LentLink) (k' : Link) → a.limits ≡ k.limits → k' ≡ renumbered (written k a) a.numbers → k' ≡ lent_link a
put-back k a k' e r =
    r
    ∙ (λ i. record { limits = sym e i; mat = (lent_link a).mat; pad = (lent_link a).pad; datas = (lent_link a).datas; replies = (lent_link a).replies })
