-- A link as C keeps it: a head of ten numbers, and eight arrays. A mark is a number: off for 0, on for anything else.
use Rattle.std.specs.Prelude.{ℕ, ◌<◌, ◌≡◌, Bool, not, List, [], ◌∷◌, ◌++◌, map, eqb, get_or}
use Rattle.limits.specs.declared.Limits.{Limits}
use Rattle.limits.specs.Questions.{pick}
use Rattle.events.specs.declared.Link.{Link}
use Rattle.events.specs.declared.Numbers.{Numbers}
pub use Rattle.events.specs.Lent.{link_of}
use Rattle.clinks.specs.declared.LentCLink.{LentCLink}

pub record CLink : Type 0 where
  pub head : List ℕ
  pub matmark : List ℕ
  pub mattimer : List ℕ
  pub matcell : List ℕ
  pub padmark : List ℕ
  pub padtimer : List ℕ
  pub padcell : List ℕ
  pub datas : List ℕ
  pub replies : List ℕ

abbrev pub clink : List ℕ → List ℕ → List ℕ → List ℕ → List ℕ → List ℕ → List ℕ → List ℕ → List ℕ → CLink
clink head matmark mattimer matcell padmark padtimer padcell datas replies =
    record {
      head = head;
      matmark = matmark;
      mattimer = mattimer;
      matcell = matcell;
      padmark = padmark;
      padtimer = padtimer;
      padcell = padcell;
      datas = datas;
      replies = replies;
    }

-- what is lent, by its contents
abbrev pub clink_of : LentCLink → CLink
clink_of s =
    clink s.head.now s.matmark.now s.mattimer.now s.matcell.now s.padmark.now s.padtimer.now s.padcell.now s.datas.now s.replies.now

-- A call leaves lent what was lent to it, so that whoever lent it finds what was written.
abbrev pub StaysLent : LentCLink → LentCLink → Type 0
StaysLent a b =
    (b.head.ghost_name ≡ a.head.ghost_name)
    × (b.matmark.ghost_name ≡ a.matmark.ghost_name) × (b.mattimer.ghost_name ≡ a.mattimer.ghost_name)
    × (b.matcell.ghost_name ≡ a.matcell.ghost_name) × (b.padmark.ghost_name ≡ a.padmark.ghost_name)
    × (b.padtimer.ghost_name ≡ a.padtimer.ghost_name) × (b.padcell.ghost_name ≡ a.padcell.ghost_name)
    × (b.datas.ghost_name ≡ a.datas.ghost_name) × (b.replies.ghost_name ≡ a.replies.ghost_name)

abbrev pub is_on : ℕ → Bool
is_on x = not (eqb x 0)

abbrev pub bit : Bool → ℕ
bit b = pick b 1 0

-- the ten numbers: the limits, and then the numbers of the link
abbrev pub limits_at : List ℕ → Limits
limits_at h =
    record { window = get_or h 0 0; datalife = get_or h 1 0; replylife = get_or h 2 0; replywait = get_or h 3 0; resendwait = get_or h 4 0 }

abbrev pub numbers_at : List ℕ → Numbers
numbers_at h = record { oldest = get_or h 5 0; next = get_or h 6 0; wanted = get_or h 7 0; datas = get_or h 8 0; replies = get_or h 9 0 }

abbrev pub limits_list : Limits → List ℕ
limits_list l = l.window ∷ l.datalife ∷ l.replylife ∷ l.replywait ∷ l.resendwait ∷ []

abbrev pub head_of : Limits → Numbers → List ℕ
head_of l n = limits_list l ++ (n.oldest ∷ n.next ∷ n.wanted ∷ n.datas ∷ n.replies ∷ [])

-- what is kept with another head and other marks
abbrev pub written : CLink → Limits → Numbers → List Bool → List Bool → CLink
written s l n marks held =
    clink (head_of l n) (map bit marks) s.mattimer s.matcell (map bit held) s.padtimer s.padcell s.datas s.replies

-- the window and the numbers are no longer than numbers of C
abbrev pub numbers_fit : Limits → Numbers → Type 0
numbers_fit l n =
    (l.window < 65536) × (n.oldest < 65536) × (n.next < 65536) × (n.wanted < 65536) × (n.datas < 65536) × (n.replies < 65536)

-- the link that is kept
abbrev pub link_at : CLink → Link
link_at s =
    link_of (limits_at s.head) (numbers_at s.head) (map is_on s.matmark) s.mattimer s.matcell (map is_on s.padmark) s.padtimer s.padcell s.datas s.replies

abbrev pub numbers_of : Link → Numbers
numbers_of k =
    record { oldest = k.mat.oldest; next = k.mat.next; wanted = k.pad.wanted; datas = k.datas.count; replies = k.replies.count }

-- how a link is stored
abbrev pub stored : Link → CLink
stored k =
    clink (head_of k.limits (numbers_of k))
    (map bit k.mat.marks) k.mat.timers k.mat.cells (map bit k.pad.held) k.pad.timers k.pad.cells k.datas.words k.replies.words
