use mathlib.Core.Path.{sym, ◌∙◌, ap}
use Rattle.horsefile.proofs.Laws.Asked.{bad, twice, good}
use Rattle.horsefile.specs.Rules.{saved_once}
use Rattle.horsefile.specs.Layout.{saved_from}
use Rattle.horsefile.proofs.Laws.Current.{saved-entries}
use Rattle.horsefile.proofs.file_answer.Goals as goal

pub returns-then-not-file_fits : goal.returns-then-not-file_fits
returns-then-not-file_fits c = record { number = bad _ _ (sym c.file_fits.ensures ∙ c.if-not-file_fits.true); value = tt }

pub returns-then-not-saved_once : goal.returns-then-not-saved_once
returns-then-not-saved_once c =
    let u = c.saved_once.ensures ∙ ap (λ n. saved_once (saved_from c.args.file.now 1 10 n)) c.from-n.ensures ∙ ap saved_once (sym (saved-entries c.args.file.now _)) in
    record { number = twice _ _ (sym c.file_fits.ensures ∙ c.if-not-file_fits.false) (sym u ∙ c.if-not-saved_once.true); value = tt }

pub returns : goal.returns
returns c =
    let u = c.saved_once.ensures ∙ ap (λ n. saved_once (saved_from c.args.file.now 1 10 n)) c.from-n.ensures ∙ ap saved_once (sym (saved-entries c.args.file.now _)) in
    record { number = good _ _ (sym c.file_fits.ensures ∙ c.if-not-file_fits.false) (sym u ∙ c.if-not-saved_once.false); value = c.from-n.ensures }
