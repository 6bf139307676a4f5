use mathlib.Core.Path.{◌≡◌, sym, ◌∙◌, ap}
use lib.ListN.{length}
use Rattle.limits.specs.Answer.{number_of}
use Rattle.air.proofs.Laws.Forms.{message-read, message_fits}
use Rattle.air.proofs.Laws.Tables.{there}
use Rattle.std.proofs.Common.{rules}
use Rattle.air.proofs.table.Table.read.Goals as goal

pub message_at-requires : goal.message_at-requires
message_at-requires g c =
    let form = g.M.Carried.form in
    let t = c.args.self.now in
    let h = there form c.args.l t.count t.words c.args.p (sym c.found.ensures.number ∙ ap number_of c.in_ok-found.was) in
    let k : length t.words ≡ g.row.N = search rules in
    rw k (message_fits form.width t.count c.args.p g.row.N h.below h.few g.met.M.Roomy.room)

pub returns : goal.returns
returns g c =
    let form = g.M.Carried.form in
    let t = c.args.self.now in
    let none = sym c.found.ensures.number ∙ ap number_of c.in_ok-found.was in
    record { number = sym none; value = c.message_at.ensures ∙ message-read form t.count t.words c.args.p (there form c.args.l t.count t.words c.args.p none).below }
