use mathlib.Core.Path.{sym, ◌∙◌, ap}
use Rattle.std.proofs.lemmas.Result.{err_from_is_err_and}
use Rattle.limits.specs.Questions.{first_no}
use Rattle.limits.proofs.Laws.Promise.{refusal-not-0}
use Rattle.limits.proofs.Laws.Questions.{more_stays, behind-passed}
use Rattle.frames.specs.Layout.{reading}
use Rattle.frames.specs.Rules.{layout_questions, value_questions}
use Rattle.frames.proofs.Laws.Reading.{layout-numbered}
use Rattle.frames.proofs.read.Goals as goal

pub returns-in_err-frame : goal.returns-in_err-frame
returns-in_err-frame c =
    let b = c.args.bytes.now in
    let p = err_from_is_err_and c.from_residual.result c.from_residual.ensures.1 in
    rw (p.1, p.2)
    (record { number = more_stays (layout_questions b) _ c.in_err-frame.ensures.number (value_questions (reading b)) (refusal-not-0 _); value = tt })

pub returns-in_err-value_answer : goal.returns-in_err-value_answer
returns-in_err-value_answer c =
    let p = err_from_is_err_and c.from_residual-in_err-value_answer.result c.from_residual-in_err-value_answer.ensures.1 in
    rw (p.1, p.2)
    (record {
      number =
          c.in_err-value_answer.ensures
          ∙ ap (λ f. first_no (value_questions f)) c.in_ok-frame.ensures.value
          ∙ sym (behind-passed (layout_questions c.args.bytes.now) _ (layout-numbered c.args.bytes.now) (sym c.in_ok-frame.ensures.number));
      value = tt;
    })

pub returns : goal.returns
returns c =
    record {
      number =
          c.in_ok-value_answer.ensures
          ∙ ap (λ f. first_no (value_questions f)) c.in_ok-frame.ensures.value
          ∙ sym (behind-passed (layout_questions c.args.bytes.now) _ (layout-numbered c.args.bytes.now) (sym c.in_ok-frame.ensures.number));
      value = c.in_ok-frame.ensures.value;
    }
