use Rattle.wh_machine.proofs.SoundLaws.{sound_step}
use Rattle.wh_machine.proofs.HeldLaws.{apart_step}
use Rattle.wh_engine.proofs.laws.events_keep_machines_sound.Goals as goal

pub returns : goal.returns
returns c = λ m e is. record { sound = sound_step m e is.sound; apart = apart_step m e is.apart }
