-- The rules give the account of the list, for every w from 1 to 32, by computation.
use Prim.Native.Nat.{ℕ, ◌≤◌}
use mathlib.Core.Path.{refl}
use Rattle.limits.specs.Lists.{tab, all, leading, how_many, joined}
use Rattle.limits.specs.Limits.{window_fits}
use Rattle.limits.specs.Questions.{pick}
use Rattle.limits.specs.Cells.{legal_cell}
use Rattle.limits.specs.Ring.{distance, step}
use Rattle.limits.specs.Tables.{remove, age}
use Rattle.limits.specs.Events.{event}
use Rattle.tables.specs.Words.{messages}
use Rattle.air.specs.Forms.{messages_of}
use Rattle.mat.specs.View.{mat_state}
use Rattle.mat.specs.Rules as mat
use Rattle.pad.specs.Window.{ready}
use Rattle.pad.specs.View.{slot_at, pad_state}
use Rattle.pad.specs.Rules as pad
use Rattle.events.specs.Rules.{stepped}
use Rattle.lists.specs.Runs.{answers, after_all, next, continued}
use Rattle.lists.specs.Account.{account}
use Rattle.events.specs.View.{link_state}
use Rattle.cases.specs.Account.{answered, data_told, replies_told, AccountOfList}
use Rattle.cases.proofs.Cases.{for-each}

pub account-of-list : (w : ℕ) → 1 ≤ w → w ≤ 32 → AccountOfList w
unfolding pick all tab leading how_many joined legal_cell distance step remove age event window_fits account answers after_all next continued stepped link_state messages messages_of mat_state pad_state slot_at ready mat.sending mat.resending mat.marked mat.passing mat.ticked pad.arrival pad.replying pad.ticked
account-of-list w some most =
    record {
      answers_are = for-each some most answered refl;
      datas = for-each some most data_told refl;
      replies = for-each some most replies_told refl;
    }
