-- A fresh link, and what an opening promises.
use mathlib.Core.Path.{◌≡◌}
use Rattle.limits.specs.declared.Limits.{Limits}
use Rattle.mat.specs.declared.Mat.{Mat}
use Rattle.mat.specs.View.{fresh_mat}
use Rattle.pad.specs.declared.Pad.{Pad}
use Rattle.pad.specs.View.{fresh_pad}
use Rattle.air.specs.Data.{DataTable, empty_data}
use Rattle.air.specs.Replies.{ReplyTable, empty_replies}
use Rattle.link.specs.View.{fresh_link}

pub link-fresh : (l : Limits) (m : Mat) (p : Pad) (d : DataTable) (r : ReplyTable) → m ≡ fresh_mat → p ≡ fresh_pad → d ≡ empty_data → r ≡ empty_replies
    → record { limits = l; mat = m; pad = p; datas = d; replies = r } ≡ fresh_link l
link-fresh l m p d r a b e f = λ i. record { limits = l; mat = a i; pad = b i; datas = e i; replies = f i }
