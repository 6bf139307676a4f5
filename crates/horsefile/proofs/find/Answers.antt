use native.Mathlib.Omega.{arith}
use mathlib.Core.Path.{sym}
use mathlib.Core.List.{[], ◌∷◌}
use Rattle.std.proofs.lemmas.Result.{err_from_is_err_and}
use Rattle.limits.specs.Questions.{ask}
use Rattle.limits.proofs.Laws.Promise.{refusal-not-0}
use Rattle.limits.proofs.Laws.Questions.{more_stays}
use Rattle.horsefile.specs.Layout.{contents}
use Rattle.horsefile.specs.Rules.{entered, saved_of, file_questions}
use Rattle.horsefile.proofs.Laws.Lookup.{file-passed, current-in, no-leg, a_leg}
use Rattle.horsefile.proofs.find.Goals as goal

pub returns-in_err-n : goal.returns-in_err-n
returns-in_err-n c =
    let f = c.args.file.now in
    let p = err_from_is_err_and c.from_residual.result c.from_residual.ensures.1 in
    rw (p.1, p.2)
    (record {
      number = more_stays (file_questions f) _ c.in_err-n.ensures.number (ask 35 (entered c.args.horse c.args.leg (saved_of (contents f))) ∷ []) (refusal-not-0 _);
      value = tt;
    })

pub current-entry-requires : goal.current-entry-requires
current-entry-requires c =
    let f = file-passed c.args.file.now (sym c.in_ok-n.ensures.number) in
    let n = c.in_ok-n.ensures.value in
    (omega (arith, f.few), omega (arith, f.long))

pub returns-then-entry-eq0 : goal.returns-then-entry-eq0
returns-then-entry-eq0 c =
    let e = current-in c.args.file.now c.args.horse c.args.leg _ c.in_ok-n.ensures.value _ c.current-entry.ensures in
    record { number = no-leg c.args.file.now c.args.horse c.args.leg c.in_ok-n.ensures.number _ e c.if-entry-eq0.true; value = tt }

pub returns : goal.returns
returns c =
    let e = current-in c.args.file.now c.args.horse c.args.leg _ c.in_ok-n.ensures.value _ c.current-entry.ensures in
    record { number = a_leg c.args.file.now c.args.horse c.args.leg c.in_ok-n.ensures.number _ e (omega arith); value = e }
