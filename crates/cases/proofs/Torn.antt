-- The rules give what is said of torn cells, for every w from 1 to 32, by computation.
use Prim.Native.Nat.{ℕ, ◌≤◌}
use mathlib.Core.Path.{refl}
use Rattle.limits.specs.Lists.{tab, all, leading, joined}
use Rattle.limits.specs.Limits.{window_fits}
use Rattle.limits.specs.Questions.{pick}
use Rattle.limits.specs.Cells.{legal_cell}
use Rattle.limits.specs.Ring.{distance, step}
use Rattle.limits.specs.Tables.{remove, age}
use Rattle.limits.specs.Events.{event}
use Rattle.tables.specs.Words.{messages}
use Rattle.air.specs.Forms.{messages_of}
use Rattle.mat.specs.View.{mat_state}
use Rattle.mat.specs.Rules as mat
use Rattle.pad.specs.Window.{ready}
use Rattle.pad.specs.View.{slot_at, pad_state}
use Rattle.pad.specs.Rules as pad
use Rattle.page.specs.Page.{shade, column, rows_on, page_text, record_fits, legal_page}
use Rattle.unbounded.specs.Ends.{at}
use Rattle.unbounded.specs.Rules.{after}
use Rattle.unbounded.specs.Lists as unbounded
use Rattle.events.specs.Rules.{stepped}
use Rattle.lists.specs.Runs as built
use Rattle.events.specs.View.{link_state}
use Rattle.cases.specs.Torn.{unbounded_ends, built_ends, unbounded_send, built_send, bad_row, TornCells}
use Rattle.cases.proofs.Cases.{for-each}

pub torn : (w : ℕ) → 1 ≤ w → w ≤ 32 → TornCells w
unfolding pick all tab leading joined legal_cell distance step remove age event window_fits shade column rows_on page_text record_fits legal_page at after unbounded.answers unbounded.after_all built.answers built.after_all built.next built.continued stepped link_state messages messages_of mat_state pad_state slot_at ready mat.sending mat.resending mat.marked mat.passing mat.ticked pad.arrival pad.replying pad.ticked
torn w some most =
    record {
      unbounded_ride = for-each some most unbounded_ends refl;
      built_ride = for-each some most built_ends refl;
      written = (refl, refl);
      read = (refl, refl);
      paged = (refl, refl);
      not_sent = (for-each some most (λ v. unbounded_send v bad_row) refl, for-each some most (λ v. built_send v bad_row) refl);
      not_written = refl;
      not_read = refl;
      not_paged = refl;
    }
