-- A reply of the built pad is the reply of the unbounded one, read modulo 2w.
use Prim.Native.Nat.{ℕ, ◌+◌, ◌-◌, ◌*◌, ◌%◌, ◌≤◌}
use mathlib.Core.Path.{◌≡◌, sym, ◌∙◌, ap}
use mathlib.Core.Bool.{false}
use mathlib.Core.List.{List, ◌++◌, map}
use native.Mathlib.Omega.{arith}
use lib.Dec.{leb}
use borrow.Author.Tests.{le-leb, lt-leb}
use lib.ListN.{take, drop, replicate}
use Rattle.limits.specs.declared.Limits.{Limits}
use Rattle.limits.specs.Lists.{tab, joined}
use Rattle.limits.specs.Ring.{step}
use Rattle.limits.proofs.Laws.Choice.{split, test}
use Rattle.pad.specs.Window.{empty, contents}
use Rattle.pad.specs.Rules as pad
use Rattle.unbounded.specs.Ends as ends
use Rattle.unbounded.specs.Ends.{Ends}
use Rattle.unbounded.specs.Rules.{replied, recording}
use Rattle.unbounded.proofs.Laws.Reads.{Reads}
use Rattle.agreement.specs.Reading.{pad_of}
use Rattle.agreement.proofs.Laws.Modulo.{step-modulo}
use Rattle.agreement.proofs.Laws.Pad.{run-read, run-low, rows-read, passed-read}

-- nothing is held beyond the pad's window
pub beyond-window : (l : Limits) (s : Ends) → Reads l s → (m : ℕ) → s.wanted + l.window ≤ m → s.held m ≡ false
beyond-window l s reads m h = test (s.held m) (λ e. let k = reads.ahead m e (omega arith) in absurd (omega arith)) (λ e. e)

-- the record has space for n rows more
pub space-read : (n wanted space left : ℕ) → left ≡ space - 16 * wanted → 16 * wanted ≤ space → leb (16 * n) left ≡ leb (16 * (wanted + n)) space
space-read n wanted space left e h =
    split (16 * n) left
    (λ k. le-leb (16 * n) left k ∙ sym (le-leb (16 * (wanted + n)) space (omega arith)))
    (λ k. lt-leb (16 * n) left k ∙ sym (lt-leb (16 * (wanted + n)) space (omega arith)))

-- the ends once n rows are answered and recorded
abbrev pub answered : Limits → Ends → ℕ → Ends
answered l s n = recording (replied l s s.wanted (s.wanted + n - 1)) n

-- what the pad's rule makes of n rows, and the unbounded one's, read
abbrev built : Limits → Ends → List ℕ → ℕ → pad.Replying
built l s buffer n =
    record {
      state = record { wanted = step (2 * l.window) (s.wanted % (2 * l.window)) n; slots = drop n (pad_of l.window s).slots ++ replicate n empty };
      count = n;
      reply = record { first = s.wanted % (2 * l.window); last = step (2 * l.window) (s.wanted % (2 * l.window)) (n - 1) };
      buffer = joined (map contents (take n (pad_of l.window s).slots)) ++ drop (16 * n) buffer;
    }

abbrev pub reply_read : Limits → Ends → List ℕ → ℕ → pad.Replying
reply_read l s buffer n =
    record {
      state = pad_of l.window (answered l s n);
      count = n;
      reply = record { first = s.wanted % (2 * l.window); last = (s.wanted + n - 1) % (2 * l.window) };
      buffer = joined (tab n (λ i. s.held_row (s.wanted + i))) ++ drop (16 * n) buffer;
    }

module _ (l : Limits) (s : Ends) (buffer : List ℕ) (reads : Reads l s) where
  built-read : (n : ℕ) → 1 ≤ n → n ≤ l.window
      → joined (map contents (take n (pad_of l.window s).slots)) ≡ joined (tab n (λ i. s.held_row (s.wanted + i)))
      → built l s buffer n ≡ reply_read l s buffer n
  built-read n some most rows =
      λ i. record {
        state = record {
          wanted = step-modulo (2 * l.window) s.wanted n i;
          slots = passed-read l.window s n most (beyond-window l s reads) i;
        };
        count = n;
        reply = record { first = s.wanted % (2 * l.window); last = last i };
        buffer = rows i ++ drop (16 * n) buffer;
      }
    where
      last : step (2 * l.window) (s.wanted % (2 * l.window)) (n - 1) ≡ (s.wanted + n - 1) % (2 * l.window)
      last = step-modulo (2 * l.window) s.wanted (n - 1) ∙ ap (◌% (2 * l.window)) {x = s.wanted + (n - 1)} {y = s.wanted + n - 1} (omega arith)

  -- the reply of a run that has a row
  pub replying-read : 1 ≤ ends.run l.window s → pad.replying l (pad_of l.window s) buffer ≡ reply_read l s buffer (ends.run l.window s)
  unfolding pad.replying
  replying-read some =
      ap (built l s buffer) (run-read l.window s)
      ∙ built-read (ends.run l.window s) some (run-low l.window s) (rows-read l.window s)
