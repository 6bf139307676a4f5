use mathlib.Core.Path.{sym, ◌∙◌, ap}
use borrow.Author.Tests.{eqb-true}
use Rattle.frames.specs.declared.Frame.TheVariants.{Data, Reply}
use Rattle.frames.proofs.Laws.Reading.{data-kind, reply-kind, no_byte, no_kind, wrong-length, right-length}
use Rattle.frames.proofs.laid_out.Goals as goal

pub returns-then-is_empty : goal.returns-then-is_empty
returns-then-is_empty c = record { number = no_byte c.args.bytes.now (eqb-true _ 0 (sym c.if-is_empty.ensures)); value = tt }

pub returns-in-1-eq36 : goal.returns-in-1-eq36
returns-in-1-eq36 c =
    let k = data-kind c.args.bytes.now c.in-1-eq36.is-0 in
    record { number = right-length _ _ k c.in-1-eq36.is-1; value = ap Data c.data_of.ensures ∙ sym k.means }

pub returns-in-2-eq5 : goal.returns-in-2-eq5
returns-in-2-eq5 c =
    let k = reply-kind c.args.bytes.now c.in-2-eq5.is-0 in
    record { number = right-length _ _ k c.in-2-eq5.is-1; value = ap Reply c.reply_of.ensures ∙ sym k.means }

pub returns-in-1-default : goal.returns-in-1-default
returns-in-1-default c = record { number = wrong-length _ _ (data-kind c.args.bytes.now c.in-1-default.is-0) c.in-1-default.is-1.1; value = tt }

pub returns-in-1-default-2 : goal.returns-in-1-default-2
returns-in-1-default-2 c = record { number = wrong-length _ _ (reply-kind c.args.bytes.now c.in-1-default.is-0) c.in-1-default.is-1.1; value = tt }

pub returns-in_default : goal.returns-in_default
returns-in_default c = record { number = no_kind c.args.bytes.now c.in_default.is-0.0.1 c.in_default.is-0.1; value = tt }
