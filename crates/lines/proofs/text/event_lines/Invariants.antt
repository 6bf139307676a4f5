use Rattle.std.proofs.Common.{◌≡◌, ◌+◌, ◌*◌, ◌≤◌, length}
use Rattle.std.specs.Iterator.Adapters.{zip_first, zip_second}
use Rattle.std.specs.Slice.Iter.{iter_rest, chunks_exact_rest, chunks_exact_size}
use Rattle.lines.specs.Text.{event_lines}
use Rattle.buffers.proofs.Laws.Buffers.{Left}
use Rattle.lines.proofs.text.event_lines.Given as goal

abbrev pub invariant-loop-event : goal.invariant-loop-event
invariant-loop-event l =
    let events = chunks_exact_rest (zip_first l.event-iterator) in
    let answers = iter_rest (zip_second l.event-iterator) in
    (goal.iterator-loop-event).can_next l.event-iterator
    × (goal.iterator-loop-event).is_finite l.event-iterator
    × (chunks_exact_size (zip_first l.event-iterator) ≡ 2)
    × (length events ≤ 2 * length answers)
    × (l.next + 6 * length events ≤ l.at + 6 * length l.events)
    × Left l.at (event_lines l.events l.answers) l.initial.buffer l.next (event_lines events answers) l.buffer
