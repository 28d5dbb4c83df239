-- What is sound stays so.
--     sound_opened                 the machine of a file's sound state is sound
--     sound_step, sound_after      an event, and a run of them
use Rattle.std.proofs.Common.{ℕ, suc, zero, ◌≤◌, List, [], ◌∷◌, Option, Some, None}
use Rattle.std.proofs.Common.{arith}
use Rattle.std.specs.Prelude.{replicate}
use Rattle.wh_state.specs.State.{State, Object}
use Rattle.wh_state.specs.Sound.{Sound}
use Rattle.wh_state.proofs.AllLaws.{all_map}
use Rattle.wh_state.proofs.SoundLaws.{sound_done}
use Rattle.wh_machine.specs.Transaction.{Transaction}
use Rattle.wh_machine.specs.Outcome.{Machine, Outcome, Refuses, Does, opened, settled}
use Rattle.wh_machine.specs.Sound.{IsBegun, AreBegun, AllChangeTables, SoundMachine}
use Rattle.wh_machine.specs.Step.{Event, decided, step, after}
use Rattle.wh_machine.proofs.Lawful.{IsLawful}
use Rattle.wh_machine.proofs.KeepingLaws.{IsReady, IsKeeping, tables_stay}
use Rattle.wh_machine.proofs.EventKeeps.{event_keeps}
use Rattle.wh_machine.proofs.EventLaws.{lawful}
use Rattle.wh_machine.proofs.StepLaws.{ready, each_event}

none_begun : (last count : ℕ) → AreBegun last (replicate count None)
none_begun last zero = tt
none_begun last (suc count) = (tt, none_begun last count)

none_change : (objects : List Object) (count : ℕ) → AllChangeTables objects (replicate count None)
none_change objects zero = tt
none_change objects (suc count) = (tt, none_change objects count)

-- no transaction is open there
pub sound_opened : (s : State) → Sound s → SoundMachine (opened s)
sound_opened s sound =
    record { state = sound; begun = none_begun s.last 65; tables = none_change s.objects 65 }

-- behind an outcome that keeps it
settles_sound : (m : Machine) {moving : List ℕ} (o : Outcome) → IsReady m → SoundMachine m → IsLawful m moving o
    → IsKeeping m o
    → SoundMachine (settled m o).0
settles_sound m (Refuses why) ready sound holds keeps = sound
settles_sound m (Does reply sessions None) ready sound holds keeps =
    record { state = sound.state; begun = holds.sessions.begun sound.begun; tables = keeps.tables }
settles_sound m (Does reply sessions (Some acts)) ready sound holds keeps = record {
  state = sound_done m.state ready.later sound.state acts keeps.acts;
  begun = holds.sessions.begun sound.begun;
  tables = tables_stay m.state.last m.state.objects acts sessions keeps.tables;
}

begun_later : (last later : ℕ) → last ≤ later → (found : Option Transaction) → IsBegun last found
    → IsBegun later found
begun_later last later h None begun = tt
begun_later last later h (Some t) begun = omega (arith, begun)

-- so it is at the stamp of an event
pub sound_ready : (m : Machine) (e : Event) → SoundMachine m → SoundMachine (ready m e)
sound_ready m e sound = record {
  state = record {
    ordered = omega (arith, sound.state.ordered);
    objects = sound.state.objects;
    earlier = sound.state.earlier;
  };
  begun = all_map (IsBegun m.state.last) (IsBegun (ready m e).state.last)
      (begun_later m.state.last (ready m e).state.last (omega arith)) m.sessions sound.begun;
  tables = sound.tables;
}

pub is_ready : (m : Machine) (e : Event) → SoundMachine m → IsReady (ready m e)
is_ready m e sound =
    let at : SoundMachine (ready m e) = sound_ready m e sound in record {
      later = omega (arith, sound.state.ordered);
      sound = at.state;
      begun = at.begun;
      tables = at.tables;
    }

-- an event
pub sound_step : (m : Machine) (e : Event) → SoundMachine m → SoundMachine (step m e).0
sound_step m e sound = each_event m e (λ p acts. SoundMachine p.0)
    (settles_sound (ready m e) (decided m e) (is_ready m e sound) (sound_ready m e sound) (lawful (ready m e) e)
    (event_keeps (ready m e) e (is_ready m e sound))) sound

-- a run of events
pub sound_after : (m : Machine) (es : List Event) → SoundMachine m → SoundMachine (after m es)
sound_after m [] sound = sound
sound_after m (e ∷ es) sound = sound_after (step m e).0 es (sound_step m e sound)
