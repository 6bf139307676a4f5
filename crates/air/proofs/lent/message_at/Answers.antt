use Prim.Native.Nat.{◌*◌}
use mathlib.Core.Path.{◌≡◌, sym, ◌∙◌, ap}
use lib.ListN.{get_or}
use Rattle.tables.specs.Words.{message_at}
use Rattle.tables.proofs.Laws.Words.{life-at}
use Rattle.air.specs.Forms.{entry_at}
use Rattle.air.proofs.lent.message_at.Goals as goal

pub returns : goal.returns
returns g c =
    let form = g.M.Carried.form in
    let words = c.args.words.now in
    let is : c.WIDTH.result ≡ form.width = c.WIDTH.ensures ∙ g.met.M.Carried.width_is in
    let body : c.read.result ≡ form.reads (message_at form.width words c.args.p).body
    = c.read.ensures ∙ ap (λ w. form.reads (entry_at form.width words (w * c.args.p)).body) is in
    let life : get_or words (c.WIDTH.result * c.args.p) 0 ≡ (message_at form.width words c.args.p).life
    = ap (λ w. get_or words (w * c.args.p) 0) is ∙ sym (life-at form.width words c.args.p) in
    λ i. record { body = body i; life = life i }
