-- Laws on a link as C keeps it: marks as numbers, and a link stored and read again.
use mathlib.Core.Path.{◌≡◌, refl, ap}
use mathlib.Core.Bool.{Bool, true, false}
use mathlib.Core.List.{List, [], ◌∷◌, map}
use lib.ListN.{replicate}
use Rattle.limits.specs.Questions.{pick}
use Rattle.events.specs.declared.Link.{Link}
use Rattle.clinks.specs.Links.{is_on, bit, link_at, stored}

-- marks stored and read again
pub marks-back : (m : List Bool) → map is_on (map bit m) ≡ m
unfolding pick
marks-back [] = refl
marks-back (true ∷ m) = ap (true ∷◌) (marks-back m)
marks-back (false ∷ m) = ap (false ∷◌) (marks-back m)

-- a link stored gives itself back
pub stored_back : (k : Link) → link_at (stored k) ≡ k
stored_back k =
    λ i. record {
      limits = k.limits;
      mat = record { oldest = k.mat.oldest; next = k.mat.next; marks = marks-back k.mat.marks i; timers = k.mat.timers; cells = k.mat.cells };
      pad = record { wanted = k.pad.wanted; held = marks-back k.pad.held i; timers = k.pad.timers; cells = k.pad.cells };
      datas = k.datas;
      replies = k.replies;
    }

-- marks that are off
pub bits-off : replicate 32 0 ≡ map bit (replicate 32 false)
unfolding pick
bits-off = refl
