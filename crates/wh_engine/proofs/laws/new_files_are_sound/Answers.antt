use Rattle.wh_state.proofs.SoundLaws.{sound_first}
use Rattle.wh_engine.proofs.laws.new_files_are_sound.Goals as goal

pub returns : goal.returns
returns c = sound_first
