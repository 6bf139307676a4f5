-- A list of events, one after the other. Each works on the unsent rest of the supply and the unwritten rest of the record.
use Rattle.std.specs.Prelude.{ℕ, ◌*◌, List, [], ◌∷◌, ◌++◌, take, drop}
use Rattle.limits.specs.Events.{Event}
use Rattle.events.specs.State.{Moved, more_rows}
use Rattle.events.specs.Rules.{answer, stepped}

abbrev pub supply_left : List ℕ → Moved → List ℕ
supply_left supply x = drop (16 * x.counts.sent) supply

abbrev pub buffer_left : Moved → List ℕ
buffer_left x = drop (16 * x.counts.recorded) x.buffer

-- y came after x, with the supply and the record that x left
unfoldable pub continued : Moved → Moved → Moved
continued x y =
    record {
      state = y.state;
      counts = more_rows x.counts y.counts;
      buffer = take (16 * x.counts.recorded) x.buffer ++ y.buffer;
    }

unfoldable pub next : List ℕ → Moved → Event → Moved
next supply x e = continued x (stepped (supply_left supply x) (buffer_left x) x.state e)

unfoldable pub after_all : List ℕ → Moved → List Event → Moved
after_all supply x [] = x
after_all supply x (e ∷ es) = after_all supply (next supply x e) es

unfoldable pub answers : List ℕ → Moved → List Event → List ℕ
answers supply x [] = []
answers supply x (e ∷ es) = answer (supply_left supply x) (buffer_left x) x.state e ∷ answers supply (next supply x e) es
