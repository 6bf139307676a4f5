use Prim.Native.Nat.{◌*◌}
use native.Mathlib.Omega.{arith}
use mathlib.Core.Path.{refl, sym}
use Rattle.frames.proofs.Laws.Values.{fits-window, both_below, first_above, last-above}
use Rattle.limits.proofs.Laws.Choice.{pick_yes, pick_no}
use Rattle.frames.proofs.frame_answer.Goals as goal
use Rattle.frames.proofs.frame_answer.Goals.{then-first-window-via-then-first-window, then-first-window-via-else-first-window+then-last-window}

pub overflow_mul-window : goal.overflow_mul-window
overflow_mul-window c = let f = fits-window _ (sym c.if-not-window_fits.ensures) in omega arith

pub overflow_mul-window-else-first-window : goal.overflow_mul-window-else-first-window
overflow_mul-window-else-first-window c = let f = fits-window _ (sym c.if-not-window_fits.ensures) in omega arith

pub returns-then-not-window_fits : goal.returns-then-not-window_fits
returns-then-not-window_fits c = sym (pick_no _ _ _ _ (sym c.if-not-window_fits.ensures) refl)

pub returns-then-first-window : goal.returns-then-first-window
returns-then-first-window c =
    let n = 2 * c.args.window in
    sym
    (pick_yes _ _ _ _ (sym c.if-not-window_fits.ensures)
    (pick_no _ _ _ _
    (elim c.then-first-window.branch [
      | then-first-window-via-then-first-window w ↦ first_above n c.args.first c.args.last (omega arith)
      | then-first-window-via-else-first-window+then-last-window w ↦ last-above n c.args.first c.args.last (omega arith)
    ])
    refl))

pub returns-then-not-within : goal.returns-then-not-within
returns-then-not-within c =
    let n = 2 * c.args.window in
    sym
    (pick_yes _ _ _ _ (sym c.if-not-window_fits.ensures)
    (pick_yes _ _ _ _ (both_below n c.args.first c.args.last (omega arith) (omega arith)) (pick_no _ _ _ _ (sym c.if-not-within.ensures) refl)))

pub returns : goal.returns
returns c =
    let n = 2 * c.args.window in
    sym
    (pick_yes _ _ _ _ (sym c.if-not-window_fits.ensures)
    (pick_yes _ _ _ _ (both_below n c.args.first c.args.last (omega arith) (omega arith)) (pick_yes _ _ _ _ (sym c.if-not-within.ensures) refl)))
