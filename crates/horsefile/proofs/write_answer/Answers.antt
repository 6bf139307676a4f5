use mathlib.Core.Path.{sym, ◌∙◌}
use Rattle.horsefile.proofs.Laws.Asked.{bad, twice, good, writes, size-counted}
use Rattle.horsefile.proofs.write_answer.Goals as goal

pub returns-then-not-write_fits : goal.returns-then-not-write_fits
returns-then-not-write_fits c = record { number = bad _ _ (sym c.write_fits.ensures ∙ c.if-not-write_fits.true); value = tt }

pub returns-then-not-saved_once : goal.returns-then-not-saved_once
returns-then-not-saved_once c =
    record { number = twice _ _ (sym c.write_fits.ensures ∙ c.if-not-write_fits.false) (sym c.saved_once.ensures ∙ c.if-not-saved_once.true); value = tt }

pub returns : goal.returns
returns c =
    let fits = sym c.write_fits.ensures ∙ c.if-not-write_fits.false in
    let w = writes c.args.entries.now c.args.rows.now c.args.room fits in
    record { number = good _ _ fits (sym c.saved_once.ensures ∙ c.if-not-saved_once.false); value = c.file_size.ensures ∙ size-counted c.args.entries.now c.args.rows.now w.counted }
