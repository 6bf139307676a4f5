-- Demand 3: every list of calls on an opened link agrees with the unbounded ends.
use Prim.Native.Nat.{ℕ}
use mathlib.Core.Path.{◌∙◌, ap}
use mathlib.Core.List.{List}
use lib.ListN.{length}
use Rattle.std.specs.Prelude.{Ok}
use Rattle.limits.specs.declared.Limits.{Limits}
use Rattle.limits.specs.Lists.{all}
use Rattle.limits.specs.Limits.{accepted}
use Rattle.limits.proofs.Laws.Good.{good}
use Rattle.unbounded.specs.Ends.{fresh}
use Rattle.unbounded.specs.Lists.{after_all}
use Rattle.events.specs.declared.Link.{Link}
use Rattle.events.specs.View.{sound_link}
use Rattle.link.specs.View.{Opened}
use Rattle.agreement.specs.Calls.{Made, start, Chain, end_of, all_events}
use Rattle.agreement.specs.Agreed.{never_full, Agreement}
use Rattle.agreement.proofs.Laws.Codes.{none-full}
use Rattle.agreement.proofs.Laws.Calls.{Came, came, same}
use Rattle.agreement.proofs.Laws.Fresh.{opened, fresh-sound, track-fresh}

pub from-opened : (asked : Limits) (k : Link) → Opened asked (Ok k) → (supply first : List ℕ) (cs : List Made) → Chain supply (start k first) cs
    → Came (accepted asked) supply first (start k first) fresh cs
from-opened asked k o supply first cs chain =
    let l = accepted asked in
    let f = opened asked k o in
    came l (good l f.1) supply first (start k first) fresh cs (ap sound_link f.0 ∙ fresh-sound l f.1) (track-fresh l f.1 supply first k f.0) chain

pub demand-3 : Agreement
demand-3 asked k o supply first cs chain =
    let l = accepted asked in
    let c = from-opened asked k o supply first cs chain in
    record {
      answers = c.numbers;
      same = same l supply first (end_of (start k first) cs) (after_all l supply (length first) fresh (all_events supply cs)) c.track;
      never_refused = ap (all never_full) c.numbers ∙ none-full l supply (length first) fresh (all_events supply cs);
      never_unsound = c.never-4;
    }
