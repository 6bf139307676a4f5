-- Which event two bytes are, kind by kind.
use Prim.Native.Nat.{ℕ, ◌≤◌, ◌<◌}
use mathlib.Core.Path.{◌≡◌}
use borrow.Author.Tests.{ne_eqb, le-leb, lt-leb}
use Rattle.limits.specs.Questions.{pick}
use Rattle.limits.specs.Events.{event, unknown, misfit, send, resend, arrive_data, reply, arrive_reply, lose_data, lose_reply, tick}

module _ (kind argument : ℕ) where
  pub is-send : kind ≡ 1 → argument ≡ 0 → event kind argument ≡ send
  unfolding event pick
  is-send e f = rw (e, f)

  pub no-send : kind ≡ 1 → (argument ≡ 0 → ⊥) → event kind argument ≡ misfit
  unfolding event pick
  no-send e f = rw (e, ne_eqb argument 0 f)

  pub is-resend : kind ≡ 2 → event kind argument ≡ resend argument
  unfolding event pick
  is-resend e = rw e

  pub is-arrive_data : kind ≡ 3 → event kind argument ≡ arrive_data argument
  unfolding event pick
  is-arrive_data e = rw e

  pub is-reply : kind ≡ 4 → argument ≡ 0 → event kind argument ≡ reply
  unfolding event pick
  is-reply e f = rw (e, f)

  pub no-reply : kind ≡ 4 → (argument ≡ 0 → ⊥) → event kind argument ≡ misfit
  unfolding event pick
  no-reply e f = rw (e, ne_eqb argument 0 f)

  pub is-arrive_reply : kind ≡ 5 → event kind argument ≡ arrive_reply argument
  unfolding event pick
  is-arrive_reply e = rw e

  pub is-lose_data : kind ≡ 6 → event kind argument ≡ lose_data argument
  unfolding event pick
  is-lose_data e = rw e

  pub is-lose_reply : kind ≡ 7 → event kind argument ≡ lose_reply argument
  unfolding event pick
  is-lose_reply e = rw e

  pub is-tick : kind ≡ 8 → 1 ≤ argument → event kind argument ≡ tick argument
  unfolding event pick
  is-tick e h = rw (e, le-leb 1 argument h)

  pub no-tick : kind ≡ 8 → argument < 1 → event kind argument ≡ misfit
  unfolding event pick
  no-tick e h = rw (e, lt-leb 1 argument h)

  pub is-unknown : (kind ≡ 1 → ⊥) → (kind ≡ 2 → ⊥) → (kind ≡ 3 → ⊥) → (kind ≡ 4 → ⊥) → (kind ≡ 5 → ⊥) → (kind ≡ 6 → ⊥) → (kind ≡ 7 → ⊥) → (kind ≡ 8 → ⊥)
      → event kind argument ≡ unknown
  unfolding event pick
  is-unknown a b c d e f g h =
      rw (ne_eqb kind 1 a, ne_eqb kind 2 b, ne_eqb kind 3 c, ne_eqb kind 4 d, ne_eqb kind 5 e, ne_eqb kind 6 f, ne_eqb kind 7 g, ne_eqb kind 8 h)
