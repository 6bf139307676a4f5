-- The free parts have their properties.
use Rattle.free.specs.Free.{Free}
use Rattle.free.proofs.Laws.Mat as mat
use Rattle.free.proofs.Laws.Pad as pad
use Rattle.free.proofs.Laws.Tables as tables
use Rattle.free.proofs.Laws.Link as link

pub free : Free
free =
    record {
      mat = record { only_free = mat.only-free; not_shown = mat.not-shown; not_asked = mat.not-asked; marks_off = mat.marks-off };
      pad = record { only_free = pad.only-free; not_shown = pad.not-shown; not_asked = pad.not-asked; timers_low = pad.timers-low };
      datas = tables.data-free;
      replies = tables.reply-free;
      link = record { only_free = link.only-free; not_shown = λ a b h s. link.not-shown a b s h; not_asked = link.not-asked };
    }
