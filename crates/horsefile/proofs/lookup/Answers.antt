use Rattle.std.specs.Prelude.{◌+◌}
use native.Mathlib.Omega.{arith}
use mathlib.Core.Path.{ap, sym}
use Rattle.std.proofs.lemmas.Result.{err_from_is_err_and}
use Rattle.horsefile.specs.declared.Entry.{Entry}
use Rattle.horsefile.proofs.Laws.Lookup.{found-inside, found-body}
use Rattle.horsefile.proofs.lookup.Goals as goal

pub slice_bounds-result-end : goal.slice_bounds-result-end
slice_bounds-result-end c =
    let f = found-inside c.args.file.now c.args.horse c.args.leg (sym c.in_ok-entry.ensures.number) _ c.in_ok-entry.ensures.value in
    omega arith

pub returns-in_err-entry : goal.returns-in_err-entry
returns-in_err-entry c =
    let p = err_from_is_err_and c.from_residual.result c.from_residual.ensures.1 in
    rw (p.1, p.2) (record { number = c.in_err-entry.ensures.number; value = tt; stands = tt })

pub returns : goal.returns
returns c = record { number = c.in_ok-entry.ensures.number; value = found-body c.args.file.now c.args.horse c.args.leg _ _ c.in_ok-entry.ensures.value (omega arith); stands = ap (λ (x : Entry). (c.args.file.ref_ptr.0, x.start + c.args.file.ref_ptr.1)) c.in_ok-entry.ensures.value }
