use Prim.Native.Nat.{◌*◌}
use mathlib.Core.Path.{◌≡◌, refl, sym, ◌∙◌, ap}
use native.Mathlib.Omega.{arith}
use lib.ListN.{length}
use Rattle.limits.proofs.Laws.Lists.{all_start}
use Rattle.air.proofs.Laws.Forms.{words-fit, word_fits, asked-next, asked-end, asked-many}
use Rattle.air.proofs.lent.table_sound.Goals as goal

pub returns-then-count-gt32 : goal.returns-then-count-gt32
returns-then-count-gt32 g c = asked-many g.M.Carried.form g.met.M.Carried.laws c.args.l c.args.words.now c.args.count c.if-count-gt32.true

pub loop-i-init : goal.loop-i-init
loop-i-init g c = (omega arith, sym (all_start _ _))

pub head_sound-good-requires : goal.head_sound-good-requires
head_sound-good-requires g c =
    let is : c.WIDTH.result ≡ g.M.Carried.form.width = c.WIDTH.ensures ∙ g.met.M.Carried.width_is in
    (c.requires.0, rw is (word_fits g.M.Carried.form.width c.loop-i.i (length c.args.words.now) (omega arith) c.requires.1))

pub loop-i-preserved : goal.loop-i-preserved
loop-i-preserved g c =
    let inv = c.loop-i.invariant in
    let form = g.M.Carried.form in (
      omega arith,
      asked-next form g.met.M.Carried.laws c.args.l c.args.words.now form.width c.loop-i.i _ _ _ refl inv.1 c.head_sound-good.ensures (ap (◌* c.loop-i.i) (c.WIDTH.ensures ∙ g.met.M.Carried.width_is)),
    )

pub cells_sound-requires : goal.cells_sound-requires
cells_sound-requires g c = words-fit g.M.Carried.form.width c.args.count (length c.args.words.now) (omega arith) c.requires.1

pub returns : goal.returns
returns g c =
    let inv = c.loop-i.invariant in
    asked-end g.M.Carried.form g.met.M.Carried.laws c.args.l c.args.words.now c.args.count c.loop-i.i _ _ c.requires.0 c.requires.1 (omega arith) (omega arith) refl inv.1 c.cells_sound.ensures
