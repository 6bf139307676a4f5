-- One event, whichever it is: the built ends answer as the unbounded ends do, and do what they do.
use Prim.Native.Nat.{ℕ, ◌-◌, ◌*◌, ◌≤◌}
use mathlib.Core.Path.{◌≡◌}
use mathlib.Core.List.{List}
use lib.ListN.{length}
use Rattle.limits.specs.declared.Limits.{Limits}
use Rattle.limits.specs.Questions.{first_no}
use Rattle.limits.specs.Events.{Event, unknown, misfit, send, resend, arrive_data, reply, arrive_reply, lose_data, lose_reply, tick}
use Rattle.unbounded.specs.Ends.{Ends}
use Rattle.unbounded.specs.Rules.{questions}
use Rattle.unbounded.proofs.Laws.Reads.{Reads}
use Rattle.agreement.proofs.Laws.Events.{Room, Asks, Acts}
use Rattle.agreement.proofs.Laws.Mat.{mat-later}
use Rattle.agreement.proofs.Laws.Sending.{asks-unknown, asks-misfit, asks-send, asks-resend, acts-unknown, acts-misfit, acts-send, acts-resend}
use Rattle.agreement.proofs.Laws.Acknowledging.{asks-arrive_reply, acts-arrive_reply}
use Rattle.agreement.proofs.Laws.PadEvents.{asks-arrive_data, asks-reply, asks-lose_data, asks-lose_reply, asks-tick, acts-arrive_data, acts-reply, acts-lose_data, acts-lose_reply, acts-tick}

-- `buffer` is the record behind the rows already written
module _ (l : Limits) (some : 1 ≤ l.window) (supply : List ℕ) (space : ℕ) (buffer : List ℕ) (s : Ends) (r : Reads l s) where
  pub asks : 16 * s.wanted ≤ space → length buffer ≡ space - 16 * s.wanted → (e : Event) → Room l supply space s e → Asks l supply space buffer s e
  asks fits left unknown room = asks-unknown l some supply space buffer s
  asks fits left misfit room = asks-misfit l some supply space buffer s
  asks fits left send room = asks-send l some supply space buffer s r room
  asks fits left (resend k) room = asks-resend l some supply space buffer s k r room
  asks fits left (arrive_data p) room = asks-arrive_data l some supply space buffer s p r room
  asks fits left reply room = asks-reply l some supply space buffer s r left fits room
  asks fits left (arrive_reply p) room = asks-arrive_reply l some supply space buffer s p r
  asks fits left (lose_data p) room = asks-lose_data l some supply space buffer s p
  asks fits left (lose_reply p) room = asks-lose_reply l some supply space buffer s p
  asks fits left (tick d) room = asks-tick l some supply space buffer s d

  pub acts : (e : Event) → first_no (questions l supply space s e) ≡ 0 → Acts l supply buffer s e
  acts unknown q = acts-unknown l some supply space buffer s
  acts misfit q = acts-misfit l some supply space buffer s
  acts send q = acts-send l some supply space buffer s r q
  acts (resend k) q = acts-resend l some supply space buffer s k r q
  acts (arrive_data p) q = acts-arrive_data l some supply space buffer s p r q
  acts reply q = acts-reply l some supply space buffer s r q
  acts (arrive_reply p) q = acts-arrive_reply l some supply space buffer s p r q
  acts (lose_data p) q = acts-lose_data l some supply space buffer s p
  acts (lose_reply p) q = acts-lose_reply l some supply space buffer s p
  acts (tick d) q = acts-tick l some supply space buffer s d (mat-later l.window d s)
