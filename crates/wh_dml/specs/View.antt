-- What the types of the code stand for, and what the effect of a change is.
--     targets_of              rows of the target by their numbers
--     effect_of               an effect
--     turn_of, turns_of       what becomes of a row
--     settled_of              what the rows of a target come to in MERGE
--     met_of                  the same, with the source rows that are matched
--     fault_of                the fault of an evaluation
--     Gives                   what `effect` gives: the effect that is meant, or why there is none
use Rattle.std.specs.Prelude.{◌≡◌, ℕ, List, map, Result, Ok, Err}
use Rattle.std.specs.List.{flat_map}
use denote.Ref.{Bor}
use Rattle.wh_value.specs.Value.{Row}
use Rattle.wh_frame.specs.Partition.{Partition}
use Rattle.wh_part.specs.View.{numbered_of}
use Rattle.wh_scalar.specs.declared.fault.EvalFault.{EvalFault}
use Rattle.wh_scalar.specs.declared.fault.EvalFault.TheVariants as faults
use Rattle.wh_effect.specs.Effect as meaning
use Rattle.wh_effect.specs.Effect.{EffectResult, Undefined, Ambiguous, Does}
use Rattle.wh_dml.specs.Steps as steps
use Rattle.wh_dml.specs.declared.target.Effect.{Effect}
use Rattle.wh_dml.specs.declared.turn.Turn.{Turn}
use Rattle.wh_dml.specs.declared.turn.Turn.TheVariants.{Stays, Goes, Becomes}
use Rattle.wh_dml.specs.declared.settled.Settled.{Settled}
use Rattle.wh_dml.specs.declared.met.Met.{Met}
use Rattle.wh_dml.specs.declared.fault.EffectFault.{EffectFault}
use Rattle.wh_dml.specs.declared.fault.EffectFault.TheVariants.{OutOfMemory, NumberOutOfRange, AmbiguousMerge}

abbrev pub targets_of : List (Bor Partition) → List (ℕ × Row)
targets_of target = flat_map (λ p. p.now.rows) target

abbrev pub effect_of : Effect → meaning.Effect
effect_of e = record { removed = e.removed.items; changed = map numbered_of e.changed.items; added = e.added.items }

abbrev pub turn_of : Turn → meaning.Turn
turn_of Stays = meaning.Stays
turn_of Goes = meaning.Goes
turn_of (Becomes row) = meaning.Becomes row

abbrev pub turns_of : List Turn → List meaning.Turn
turns_of turns = map turn_of turns

abbrev pub settled_of : Settled → steps.Settled
settled_of s = record { ambiguous = s.ambiguous; effect = effect_of s.effect }

abbrev pub met_of : Met → steps.Met
met_of m = record { found = settled_of m.found; flags = m.flags.items }

abbrev pub fault_of : EvalFault → EffectFault
fault_of faults.NumberOutOfRange = NumberOutOfRange
fault_of faults.OutOfMemory = OutOfMemory

abbrev pub Gives : Result Effect EffectFault → EffectResult → Type 0
Gives (Ok e) meant = meant ≡ Does (effect_of e)
Gives (Err NumberOutOfRange) meant = meant ≡ Undefined
Gives (Err (AmbiguousMerge row)) meant = meant ≡ Ambiguous row
Gives (Err OutOfMemory) meant = Unit {0}
