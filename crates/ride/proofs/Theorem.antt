-- Torn cells stand in the record of a ride where the mat read them.
use Prim.Native.Nat.{◌*◌}
use mathlib.Core.Path.{◌≡◌, sym, ◌∙◌, ap}
use mathlib.Core.List.{◌++◌}
use native.Mathlib.Omega.{arith}
use lib.ListN.{length, take, drop}
use Rattle.agreement.proofs.Torn.{stays}
use Rattle.ride.specs.Ride.{Riding, ends_of}
use Rattle.ride.specs.Torn.{TornCellsStayInRides}
use Rattle.ride.proofs.Laws.Bounds.{bounded}

pub torn-cells-stay-in-rides : TornCellsStayInRides
torn-cells-stay-in-rides asked bytes supply before after answers_before answers_after n rode =
    let s = ends_of asked bytes supply (length before) in
    let b = bounded asked bytes supply answers_before (length before) (sym rode.number) in
    let recorded : n.recorded ≡ s.wanted = ap (λ (x : Riding). x.counts.recorded) rode.done in
    stays supply (drop (16 * n.recorded) before) after n.recorded (let low = b.recorded in let most = b.sent in omega arith)
    (ap (λ (x : Riding). x.buffer) rode.done ∙ ap (λ k. take (16 * k) supply ++ drop (16 * k) before) (sym recorded))
