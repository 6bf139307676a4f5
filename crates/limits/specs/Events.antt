-- Events. Each is two bytes, kind and argument; questions 8 and 9 are settled where the bytes are read.
use Rattle.std.specs.Prelude.{ℕ, List, [], ◌∷◌, eqb, leb}
use Rattle.limits.specs.Questions.{pick}

-- `unknown` is refused by 8 and `misfit` by 9.
pub data Event : Type 0 where
  unknown : Event
  misfit : Event
  send : Event
  resend : ℕ → Event
  arrive_data : ℕ → Event
  reply : Event
  arrive_reply : ℕ → Event
  lose_data : ℕ → Event
  lose_reply : ℕ → Event
  tick : ℕ → Event

unfoldable pub event : ℕ → ℕ → Event
event kind argument =
    pick (eqb kind 1) (pick (eqb argument 0) send misfit)
    (pick (eqb kind 2) (resend argument)
    (pick (eqb kind 3) (arrive_data argument)
    (pick (eqb kind 4) (pick (eqb argument 0) reply misfit)
    (pick (eqb kind 5) (arrive_reply argument)
    (pick (eqb kind 6) (lose_data argument)
    (pick (eqb kind 7) (lose_reply argument)
    (pick (eqb kind 8) (pick (leb 1 argument) (tick argument) misfit)
    unknown)))))))

-- the events of a list of bytes; a last byte without an argument is none
abbrev pub events : List ℕ → List Event
events [] = []
events (kind ∷ []) = []
events (kind ∷ argument ∷ rest) = event kind argument ∷ events rest
