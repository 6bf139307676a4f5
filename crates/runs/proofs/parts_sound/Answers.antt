use Rattle.std.proofs.Common.{rules}
use Rattle.events.specs.View.{sound_link}
use Rattle.runs.proofs.parts_sound.Goals as goal

pub returns-then-table_sound : goal.returns-then-table_sound
unfolding sound_link
returns-then-table_sound c = search rules

pub returns-else-table_sound : goal.returns-else-table_sound
unfolding sound_link
returns-else-table_sound c = search rules

pub returns-else-pad_sound : goal.returns-else-pad_sound
unfolding sound_link
returns-else-pad_sound c = search rules

pub returns-else-mat_sound : goal.returns-else-mat_sound
unfolding sound_link
returns-else-mat_sound c = search rules

pub returns-else-sound_limits : goal.returns-else-sound_limits
unfolding sound_link
returns-else-sound_limits c = search rules
