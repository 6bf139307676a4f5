use mathlib.Core.Path.{◌≡◌, refl, ◌∙◌, ap}
use Rattle.std.proofs.Common.{rules}
use Rattle.mat.specs.View.{mat_of, lent_mat}
use Rattle.devices.specs.declared.MatDevice.{MatDevice}
use Rattle.devices.specs.Mats.{mat_device}
use Rattle.cdevices.specs.Devices.{cdevice, cmat_of, mat_at}
use Rattle.clinks.proofs.Laws.Done.{done-sound}
use Rattle.cdevices.proofs.Laws.Calls.{mat-small, stored-limits, send-done, send-refused}
use Rattle.cdevices.proofs.cmat.send.Goals as goal
use Rattle.cdevices.proofs.cmat.send.Goals.{then-is_ok, else-is_ok}

pub write_back-requires : goal.write_back-requires
write_back-requires c = let u = c.send-answer in
    mat-small c.limits_of.result (lent_mat u.new.mat) (done-sound _ _ u.result _ _ _ _ _ _ c.if-is_ok.ensures.value refl u.ensures.sends)

pub returns-clause-sends : goal.returns-clause-sends
returns-clause-sends c = let u = c.send-answer in let s = c.args.mat.now in let l = c.limits_of.result in
    let e : ◌≡◌ {A = MatDevice} (mat_device l (mat_of c.from.result c.from-2.result c.marks_of-marks.result s.timer.now s.cell.now)) (mat_at (cmat_of s)) =
    λ i. mat_device (c.limits_of.ensures i) (mat_of (c.from.ensures i) (c.from-2.ensures i) (c.marks_of-marks.ensures i) s.timer.now s.cell.now) in
    elim c.if-is_ok.branch [
      | then-is_ok w ↦
          send-done _ (mat_device l (lent_mat u.new.mat)) _ _ _ e u.result _ c.unwrap_or.ensures c.number.ensures _ _ _ u.ensures.sends w.if-is_ok.ensures.value
          (ap cmat_of w.mat-is ∙ w.write_back.ensures.kept ∙ stored-limits s.limits.now l _ _ _ _ (search rules) c.limits_of.ensures ∙ search rules)
      | else-is_ok w ↦
          send-refused _ (mat_device l (lent_mat u.new.mat)) _ _ _ e u.result _ c.unwrap_or.ensures c.number.ensures _ _ _ u.ensures.sends w.if-is_ok.ensures.value
          (λ k. ap cmat_of w.mat-is ∙ (λ i. cdevice s.limits.now s.numbers.now s.mark.now (k i).mat.timers (k i).mat.cells))
    ]
