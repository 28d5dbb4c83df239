use Rattle.wh_machine.proofs.SoundLaws.{sound_opened}
use Rattle.wh_machine.proofs.HeldLaws.{apart_opened}
use Rattle.wh_engine.proofs.laws.sound_states_open_to_sound_machines.Goals as goal

pub returns : goal.returns
returns c = λ s sound. record { sound = sound_opened s sound; apart = apart_opened s }
