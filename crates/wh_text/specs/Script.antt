-- What contracts say of a `Script`.
--     ahead_of, taken_of      what was taken from the source and not used yet, and how many bytes were taken
--     consumed_of             how many bytes were used
--     fault_of                the fault that each turn has from now on
--     Uses                    a turn used a byte or more
--     Counts                  the bytes that the source lost were counted
--     HasCauses               a fault has its cause, and stays
use Rattle.std.specs.Prelude.{◌≡◌, ℕ, ◌+◌, ◌-◌, ◌<◌, ◌^◌, ◌⊎◌, List, length, Option, Some, Result, IfErr, IsErrOf}
use Rattle.wh_world.specs.Told.{Rose}
use Rattle.wh_text.specs.declared.line.Line.{Line}
use Rattle.wh_text.specs.declared.fault.ScriptFault.{ScriptFault}
use Rattle.wh_text.specs.declared.fault.ScriptFault.TheVariants.{Read, TooLong}
use Rattle.wh_text.specs.declared.script.Script.{Script}

abbrev pub ahead_of : Script → List ℕ
ahead_of s = s.ahead.bytes

abbrev pub taken_of : Script → ℕ
taken_of s = s.ahead.taken

abbrev pub consumed_of : Script → ℕ
consumed_of s = taken_of s - length (ahead_of s)

abbrev pub fault_of : Script → Option ScriptFault
fault_of s = s.fault

abbrev pub Uses : Script → Script → Type 0
Uses old new = consumed_of old < consumed_of new

pub record Counts (old new : Script) (left_old left_new : Option (List ℕ)) : Type 0 where
  pub each : (left : List ℕ)
      → left_old ≡ Some left
      → (rest : List ℕ) × (left_new ≡ Some rest) × (length left + taken_of old ≡ length rest + taken_of new)

-- the count of the source's faults before and after the turn; too long is a script of which more bytes were taken
pub record HasCauses (old new : Script) (result : Result (Option Line) ScriptFault) (before after : ℕ) : Type 0 where
  pub stays : IfErr result (λ fault. fault_of new ≡ Some fault)
  pub read : IsErrOf result Read → Rose before after ⊎ (fault_of old ≡ Some Read)
  pub too_long : (taken : ℕ) → IsErrOf result (TooLong taken) → (2 ^ 30 < taken) × (taken ≡ taken_of new)
  pub long : 2 ^ 30 < taken_of new → IsErrOf result (TooLong (taken_of new))
