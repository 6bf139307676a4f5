use Prim.Native.Nat.{◌+◌}
use native.Mathlib.Omega.{arith}
use Rattle.tables.proofs.Laws.Words.{starts_by, count_most, gathered-start, gathered-turn, gathered-end, run_fits}
use Rattle.tables.proofs.age.Goals as goal

pub loop-i-init : goal.loop-i-init
loop-i-init c = gathered-start _ _ _ _

pub slide-requires : goal.slide-requires
slide-requires c =
    let v = c.lower-n in
    let m = starts_by c.args.width (c.loop-i.i + v.result) c.args.count (run_fits c.args.width c.args.d c.args.count c.loop-i.i v.result c.loop-i.words (omega arith) v.ensures.0) in
    (omega arith, omega arith, omega arith)

pub overflow_add-kept : goal.overflow_add-kept
overflow_add-kept c =
    let v = c.lower-n in
    let m = count_most c.args.width c.args.count c.requires.0 in
    let f = run_fits c.args.width c.args.d c.args.count c.loop-i.i v.result c.loop-i.words (omega arith) v.ensures.0 in
    omega arith

pub overflow_add-i : goal.overflow_add-i
overflow_add-i c =
    let v = c.lower-n in
    let m = count_most c.args.width c.args.count c.requires.0 in
    let f = run_fits c.args.width c.args.d c.args.count c.loop-i.i v.result c.loop-i.words (omega arith) v.ensures.0 in
    omega arith

pub overflow_add-i-in-loop-i : goal.overflow_add-i-in-loop-i
overflow_add-i-in-loop-i c =
    let v = c.lower-n in
    let m = count_most c.args.width c.args.count c.requires.0 in
    let f = run_fits c.args.width c.args.d c.args.count c.loop-i.i v.result c.loop-i.words (omega arith) v.ensures.0 in
    omega arith

pub loop-i-preserved : goal.loop-i-preserved
loop-i-preserved c =
    let v = c.lower-n.ensures in
    gathered-turn _ _ _ _ _ _ _ _ _ _ c.requires.0 (omega arith) c.requires.1 c.loop-i.invariant v.0 v.1 c.slide.ensures

pub returns : goal.returns
returns c = gathered-end _ _ _ _ _ _ _ (omega arith) c.loop-i.invariant
