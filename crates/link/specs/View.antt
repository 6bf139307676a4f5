-- What an opening promises.
use Rattle.limits.specs.declared.Limits.{Limits}
use Rattle.std.specs.Prelude.{Result}
use Rattle.limits.specs.declared.answer.Refusal.{Refusal}
use Rattle.limits.specs.Questions.{Answered}
use Rattle.limits.specs.Limits.{limits_questions, accepted}
use Rattle.mat.specs.View.{mat_of, fresh_mat}
use Rattle.pad.specs.View.{pad_of, fresh_pad}
use Rattle.air.specs.Data.{data_table, empty_data}
use Rattle.air.specs.Replies.{reply_table, empty_replies}
use Rattle.events.specs.declared.Link.{Link}
use Rattle.events.specs.declared.Numbers.{Numbers}

abbrev pub fresh_link : Limits → Link
fresh_link l = record { limits = l; mat = fresh_mat; pad = fresh_pad; datas = empty_data; replies = empty_replies }

abbrev pub Opened : Limits → Result Link Refusal → Type 0
Opened asked r = Answered (limits_questions asked) r (fresh_link (accepted asked))

-- a link with other numbers
abbrev pub renumbered : Link → Numbers → Link
renumbered k n =
    record {
      limits = k.limits;
      mat = mat_of n.oldest n.next k.mat.marks k.mat.timers k.mat.cells;
      pad = pad_of n.wanted k.pad.held k.pad.timers k.pad.cells;
      datas = data_table n.datas k.datas.words;
      replies = reply_table n.replies k.replies.words;
    }
