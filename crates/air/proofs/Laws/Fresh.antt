-- Empty tables are sound and hold no message.
use mathlib.Core.Path.{◌≡◌, refl}
use mathlib.Core.Bool.{true}
use mathlib.Core.List.{[]}
use Rattle.limits.specs.declared.Limits.{Limits}
use Rattle.limits.specs.Lists.{tab, all}
use Rattle.tables.specs.Words.{messages}
use Rattle.air.specs.Rules.{sound_messages}
use Rattle.air.specs.Forms.{messages_of, sound_table}
use Rattle.air.specs.Data.{data_messages, empty_data, sound_data_table}
use Rattle.air.specs.Replies.{reply_messages, empty_replies, sound_reply_table}

pub no-data : data_messages empty_data ≡ []
unfolding messages_of messages tab
no-data = refl

pub no-replies : reply_messages empty_replies ≡ []
unfolding messages_of messages tab
no-replies = refl

pub empty-data-sound : (l : Limits) → sound_data_table l empty_data ≡ true
unfolding sound_table sound_messages messages_of messages tab all
empty-data-sound l = refl

pub empty-replies-sound : (l : Limits) → sound_reply_table l empty_replies ≡ true
unfolding sound_table sound_messages messages_of messages tab all
empty-replies-sound l = refl
