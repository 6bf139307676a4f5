-- Lists of what happens in a world, and the events of the link that they are.
use Rattle.std.specs.Prelude.{ℕ, ◌<◌, ◌≡◌, Bool, ◌||◌, List, [], ◌∷◌, map, eqb, length, get_or, take, OnOk}
use Rattle.limits.specs.Answer.{number_of}
use Rattle.limits.specs.Lists.{joined}
use Rattle.limits.specs.Questions.{pick, first_no}
use Rattle.limits.specs.Events.{Event, event, send, resend, arrive_data, reply, arrive_reply, lose_data, lose_reply}
use Rattle.devices.specs.Frames.{data_questions, reply_questions}
use Rattle.devices.specs.Mats as mats
use Rattle.devices.specs.Pads as pads
use Rattle.world.specs.World.{InAir, World, Made, sent, resent, data_handed, replied, reply_handed, data_lost, reply_lost, ticked, noise_to_mat, noise_to_pad, unsent, unwritten, following}

abbrev pub bytes_at : List InAir → ℕ → List ℕ
bytes_at fs p = (get_or fs p (record { body = []; life = 0 })).body

-- what is lent is a front of what there is
abbrev pub Front : List ℕ → List ℕ → Type 0
Front part all_of_it = part ≡ take (length part) all_of_it

-- Calls met their contracts, frames that are handed over or lost were in the air, and noise is no good frame for its end. What is lent to a
-- send that is done is rows that are not sent, and to a reply that is done the record that is not written, some of it or all.
abbrev pub Met : List ℕ → World → Made → Type 0
Met supply x (sent lent before after mat r) = OnOk r (Front lent (unsent supply x)) × mats.SendCall x.mat lent before mat after r
Met supply x (resent k before after mat r) = mats.ResendCall x.mat k before mat after r
Met supply x (data_handed p before after pad r) = (p < length x.datas) × pads.ReceiveCall x.pad (bytes_at x.datas p) before pad after r
Met supply x (replied rows rows' before after pad r) = OnOk r (Front rows (unwritten x)) × pads.ReplyCall x.pad rows before pad rows' after r
Met supply x (reply_handed p mat r) = (p < length x.replies) × mats.ReceiveCall x.mat (bytes_at x.replies p) mat r
Met supply x (data_lost p) = p < length x.datas
Met supply x (reply_lost p) = p < length x.replies
Met supply x (ticked d mat r pad q) = mats.TickCall x.mat d mat r × pads.TickCall x.pad d pad q
Met supply x (noise_to_mat bytes mat r) = (first_no (reply_questions x.mat.limits bytes) ≡ 0 → ⊥) × mats.ReceiveCall x.mat bytes mat r
Met supply x (noise_to_pad bytes before after pad r) =
    (first_no (data_questions x.pad.limits bytes) ≡ 0 → ⊥) × pads.ReceiveCall x.pad bytes before pad after r

abbrev pub Chain : List ℕ → World → List Made → Type 0
Chain supply x [] = Unit {0}
Chain supply x (c ∷ cs) = Met supply x c × Chain supply (following x c) cs

abbrev pub end_of : World → List Made → World
end_of x [] = x
end_of x (c ∷ cs) = end_of (following x c) cs

-- the number of the answer; what the air does is done
abbrev pub number : Made → ℕ
number (sent lent before after mat r) = number_of r
number (resent k before after mat r) = number_of r
number (data_handed p before after pad r) = number_of r
number (replied rows rows' before after pad r) = number_of r
number (reply_handed p mat r) = number_of r
number (data_lost p) = 0
number (reply_lost p) = 0
number (ticked d mat r pad q) = number_of r
number (noise_to_mat bytes mat r) = number_of r
number (noise_to_pad bytes before after pad r) = number_of r

-- The event of the link that it is. Noise is none, nor is a call that is refused for what is lent to it: part of a row, no row or a bad one, a
-- record or a buffer too short.
abbrev pub for_lent : ℕ → Bool
for_lent n = eqb n 6 || (eqb n 11 || (eqb n 12 || (eqb n 21 || eqb n 28)))

abbrev pub if_lent : ℕ → Event → List Event
if_lent n e = pick (for_lent n) [] (e ∷ [])

abbrev pub events_of : Made → List Event
events_of (sent lent before after mat r) = if_lent (number_of r) send
events_of (resent k before after mat r) = if_lent (number_of r) (resend k)
events_of (data_handed p before after pad r) = if_lent (number_of r) (arrive_data p)
events_of (replied rows rows' before after pad r) = if_lent (number_of r) reply
events_of (reply_handed p mat r) = arrive_reply p ∷ []
events_of (data_lost p) = lose_data p ∷ []
events_of (reply_lost p) = lose_reply p ∷ []
events_of (ticked d mat r pad q) = event 8 d ∷ []
events_of (noise_to_mat bytes mat r) = []
events_of (noise_to_pad bytes before after pad r) = []

abbrev pub numbers_of : Made → List ℕ
numbers_of c = take (length (events_of c)) (number c ∷ [])

abbrev pub all_events : List Made → List Event
all_events cs = joined (map events_of cs)

abbrev pub all_numbers : List Made → List ℕ
all_numbers cs = joined (map numbers_of cs)
