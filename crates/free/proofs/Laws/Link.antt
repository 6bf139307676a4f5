-- What is free in a link: what is free in its parts.
use Prim.Native.Nat.{◌≤◌}
use mathlib.Core.Path.{◌≡◌, sym, ◌∙◌, ap}
use mathlib.Core.Bool.{true}
use native.Mathlib.Omega.{arith}
use Rattle.limits.specs.Limits.{sound_limits}
use Rattle.limits.proofs.Laws.Good.{good}
use Rattle.mat.specs.View.{mat_state, sound_mat}
use Rattle.pad.specs.View.{pad_state, sound_pad}
use Rattle.air.specs.Data.{sound_data_table}
use Rattle.air.specs.Replies.{sound_reply_table}
use Rattle.events.specs.declared.Link.{Link}
use Rattle.events.specs.State.{LinkState}
use Rattle.events.specs.View.{link_state, sound_link}
use Rattle.events.proofs.Laws.Parts.{parts, whole}
use Rattle.free.specs.Free.{SameLink, TimersLow}
use Rattle.free.proofs.Laws.Mat as mat
use Rattle.free.proofs.Laws.Pad as pad
use Rattle.free.proofs.Laws.Tables.{data-free, reply-free}

pub only-free : (a b : Link) → sound_link a ≡ true → sound_link b ≡ true → link_state a ≡ link_state b → SameLink a b
unfolding link_state
only-free a b x y e =
    record {
      limits = limits;
      mat = mat.only-free a.limits a.mat b.mat (parts a x).mat (ap (λ l. sound_mat l b.mat) limits ∙ (parts b y).mat)
          (ap (λ (s : LinkState). s.mat) e ∙ ap (λ l. mat_state l.window b.mat) (sym limits));
      pad = pad.only-free a.limits.window a.pad b.pad
          (ap (λ (s : LinkState). s.pad) e ∙ ap (λ l. pad_state l.window b.pad) (sym limits));
      datas = data-free.only_free a.datas b.datas (ap (λ (s : LinkState). s.datas) e);
      replies = reply-free.only_free a.replies b.replies (ap (λ (s : LinkState). s.replies) e);
    }
  where
    limits : a.limits ≡ b.limits
    limits = ap (λ (s : LinkState). s.limits) e

module _ (a b : Link) (s : SameLink a b) where
  pub not-shown : 1 ≤ a.limits.window → link_state a ≡ link_state b
  unfolding link_state
  not-shown h =
      λ i. record {
        limits = s.limits i;
        mat = (mat.not-shown a.limits.window a.mat b.mat h s.mat ∙ ap (λ l. mat_state l.window b.mat) s.limits) i;
        pad = (pad.not-shown a.limits.window a.pad b.pad s.pad ∙ ap (λ l. pad_state l.window b.pad) s.limits) i;
        datas = data-free.not_shown a.datas b.datas s.datas i;
        replies = reply-free.not_shown a.replies b.replies s.replies i;
      }

  pub not-asked : TimersLow a.limits b.pad → sound_link a ≡ true → sound_link b ≡ true
  not-asked low e =
      let p = parts a e in
      let g = good a.limits p.limits in
      whole b
      (record {
        limits = ap sound_limits (sym s.limits) ∙ p.limits;
        mat = ap (λ l. sound_mat l b.mat) (sym s.limits) ∙ sym (mat.not-asked a.limits a.mat b.mat (omega arith) s.mat) ∙ p.mat;
        pad = ap (λ l. sound_pad l b.pad) (sym s.limits) ∙ pad.not-asked a.limits a.pad b.pad s.pad low p.pad;
        datas = ap (λ l. sound_data_table l b.datas) (sym s.limits) ∙ sym (data-free.not_asked a.limits a.datas b.datas s.datas) ∙ p.datas;
        replies = ap (λ l. sound_reply_table l b.replies) (sym s.limits) ∙ sym (reply-free.not_asked a.limits a.replies b.replies s.replies) ∙ p.replies;
      })
