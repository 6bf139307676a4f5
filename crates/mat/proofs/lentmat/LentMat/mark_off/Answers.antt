use Rattle.mat.specs.View.{lent_mat}
use Rattle.mat.proofs.Laws.Acknowledge.{run-counted, run-most, marked-sound, marked-shown}
use Rattle.mat.proofs.Laws.Sound.{numbered, facts}
use Rattle.limits.proofs.Laws.Good.{good}
use Rattle.limits.proofs.Laws.Ring.{place-at-distance}
use Rattle.rows.proofs.Laws.Places.{place-below}
use lib.ListN.{length}
use mathlib.Core.Path.{◌≡◌, ◌∙◌, ap}
use Prim.Native.Nat.{◌+◌, ◌%◌}
use native.Mathlib.Omega.{arith}
use Rattle.std.proofs.Common.{rules}
use Rattle.mat.proofs.lentmat.LentMat.mark_off.Goals as goal

pub gap-out-requires : goal.gap-out-requires
gap-out-requires c = omega (arith, good _ c.requires.0.0, numbered _ (lent_mat c.args.self.now) c.requires.0)

pub slot-from-requires : goal.slot-from-requires
slot-from-requires c = omega (arith, good _ c.requires.0.0, numbered _ (lent_mat c.args.self.now) c.requires.0)

pub set_span-requires : goal.set_span-requires
set_span-requires c = let g = good _ c.requires.0.0 in let n = numbered _ (lent_mat c.args.self.now) c.requires.0 in
    let long : length c.args.self.now.marks.now ≡ 32 = search rules in
    omega (arith, g, n, long, c.requires.3, c.slot.ensures, place-below _ c.args.first g.window-low)

pub set_span-requires-2 : goal.set_span-requires-2
set_span-requires-2 c = let g = good _ c.requires.0.0 in let n = numbered _ (lent_mat c.args.self.now) c.requires.0 in
    let long : length c.set_span.new.marks ≡ 32 = search rules in
    omega (arith, g, n, long, run-most _ _ _ c.marked_run-passed.ensures, c.gap-out.ensures, c.slot-from.ensures, place-below _ c.args.self.now.oldest g.window-low)

pub forward-self-requires : goal.forward-self-requires
forward-self-requires c =
    omega (arith, good _ c.requires.0.0, numbered _ (lent_mat c.args.self.now) c.requires.0, run-most _ _ _ c.marked_run-passed.ensures, c.gap-out.ensures)

pub returns-clause-passes : goal.returns-clause-passes
returns-clause-passes c = λ s. let m = lent_mat c.args.self.now in
    let f = facts _ m c.requires.0.0 s in
    let k : length m.marks ≡ 32 = search rules in
    let a = c.slot.ensures ∙ place-at-distance _ _ _ f.numbers.oldest c.requires.1 in
    let o = c.slot-from.ensures in
    let d = o ∙ ap (◌% c.args.l.window) {x = m.oldest} {y = m.oldest + 0} (omega arith) in
    let e = c.set_span.ensures in
    let r = run-counted _ m _ _ f.limits.window-low f.limits.window-high f.numbers c.requires.2 c.requires.3 k _ _ _ _ _ c.marked_run-passed.ensures c.gap-out.ensures o a e in (
      marked-sound _ m _ _ f c.requires.2 c.requires.3 k _ r _ _ _ _ _ a d e c.set_span-2.ensures c.forward-self.ensures,
      marked-shown _ m _ _ f c.requires.2 c.requires.3 k _ r _ _ _ _ _ a d e c.set_span-2.ensures c.forward-self.ensures,
    )

pub returns-clause-low : goal.returns-clause-low
returns-clause-low c = omega (arith, run-most _ _ _ c.marked_run-passed.ensures, c.gap-out.ensures, c.requires.0.3)
