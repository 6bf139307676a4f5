-- Question 4 of a link is question 4 of its parts.
use Prim.Native.Nat.{◌*◌, ◌<◌, ◌≤◌}
use mathlib.Core.Path.{◌≡◌}
use mathlib.Core.Bool.{true, ◌&&◌}
use Rattle.limits.specs.Limits.{sound_limits}
use Rattle.limits.proofs.Laws.Choice.{and_left, and_right, both}
use Rattle.limits.specs.Ring.{distance}
use Rattle.mat.specs.View.{sound_mat}
use Rattle.mat.proofs.Laws.Sound as mat
use Rattle.pad.specs.View.{sound_pad}
use Rattle.pad.proofs.Laws.Sound as pad
use Rattle.air.specs.Data.{sound_data_table}
use Rattle.air.specs.Replies.{sound_reply_table}
use Rattle.events.specs.declared.Link.{Link}
use Rattle.events.specs.View.{sound_link}

pub record Parts (k : Link) : Type 0 where
  pub limits : sound_limits k.limits ≡ true
  pub mat : sound_mat k.limits k.mat ≡ true
  pub pad : sound_pad k.limits k.pad ≡ true
  pub datas : sound_data_table k.limits k.datas ≡ true
  pub replies : sound_reply_table k.limits k.replies ≡ true

pub parts : (k : Link) → sound_link k ≡ true → Parts k
unfolding sound_link
parts k e =
    record {
      limits = and_left (sound_limits k.limits) _ e;
      mat = and_left (sound_mat k.limits k.mat) _ behind;
      pad = and_left (sound_pad k.limits k.pad) _ more;
      datas = and_left (sound_data_table k.limits k.datas) (sound_reply_table k.limits k.replies) last;
      replies = and_right (sound_data_table k.limits k.datas) (sound_reply_table k.limits k.replies) last;
    }
  where
    behind : (sound_mat k.limits k.mat && (sound_pad k.limits k.pad && (sound_data_table k.limits k.datas && sound_reply_table k.limits k.replies))) ≡ true
    behind = and_right (sound_limits k.limits) _ e

    more : (sound_pad k.limits k.pad && (sound_data_table k.limits k.datas && sound_reply_table k.limits k.replies)) ≡ true
    more = and_right (sound_mat k.limits k.mat) _ behind

    last : (sound_data_table k.limits k.datas && sound_reply_table k.limits k.replies) ≡ true
    last = and_right (sound_pad k.limits k.pad) _ more

pub whole : (k : Link) → Parts k → sound_link k ≡ true
unfolding sound_link
whole k p = both _ _ p.limits (both _ _ p.mat (both _ _ p.pad (both _ _ p.datas p.replies)))

-- what the numbers of a sound link keep to
pub mat-numbers : (k : Link) → Parts k → (k.mat.oldest < 2 * k.limits.window) × (k.mat.next < 2 * k.limits.window)
    × (distance (2 * k.limits.window) k.mat.oldest k.mat.next ≤ k.limits.window)
mat-numbers k p = let f = mat.facts k.limits k.mat p.limits p.mat in (f.numbers.oldest, f.numbers.next, f.numbers.out)

pub pad-number : (k : Link) → Parts k → k.pad.wanted < 2 * k.limits.window
pad-number k p = (pad.facts k.limits k.pad p.pad).low
