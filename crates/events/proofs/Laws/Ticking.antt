-- Time passes for all four parts at once.
use Prim.Native.Nat.{ℕ}
use mathlib.Core.Path.{◌≡◌, refl}
use mathlib.Core.Bool.{true}
use mathlib.Core.List.{List, []}
use Rattle.std.specs.Prelude.{Ok}
use Rattle.limits.specs.Tables.{age}
use Rattle.limits.specs.Events.{tick}
use Rattle.mat.specs.View as mat
use Rattle.mat.specs.Rules as mat_rules
use Rattle.mat.specs.declared.Mat.{Mat}
use Rattle.pad.specs.View as pad
use Rattle.pad.specs.Rules as pad_rules
use Rattle.pad.specs.declared.Pad.{Pad}
use Rattle.air.specs.Data.{DataTable, data_messages, DataHolds}
use Rattle.air.specs.Replies.{ReplyTable, reply_messages, ReplyHolds}
use Rattle.events.specs.declared.Link.{Link}
use Rattle.events.specs.View.{link_state}
use Rattle.events.proofs.Laws.Parts.{Parts, whole}
use Rattle.events.proofs.Laws.Ends.{Moves, done}

module _ (k : Link) (p : Parts k) (d : ℕ) (m : Mat) (q : Pad) (ds : DataTable) (rs : ReplyTable) where
  pub ticks : (mat.sound_mat k.limits m ≡ true) × (mat.mat_state k.limits.window m ≡ mat_rules.ticked d (mat.mat_state k.limits.window k.mat))
      → (pad.sound_pad k.limits q ≡ true) × (pad.pad_state k.limits.window q ≡ pad_rules.ticked d (pad.pad_state k.limits.window k.pad))
      → DataHolds k.limits ds (age d (data_messages k.datas)) → ReplyHolds k.limits rs (age d (reply_messages k.replies))
      → (supply b : List ℕ) → Moves k supply b b (tick d) (tt {0}) (record { limits = k.limits; mat = m; pad = q; datas = ds; replies = rs }) (Ok tt)
  unfolding link_state
  ticks cm cp cd cr supply b =
      done [] _ k _ b b tt refl refl
      (λ i. record {
        limits = k.limits;
        mat = cm.1 i;
        pad = cp.1 i;
        datas = cd.1 i;
        replies = cr.1 i;
      })
      refl
      (whole _ (record { limits = p.limits; mat = cm.0; pad = cp.0; datas = cd.0; replies = cr.0 }))
