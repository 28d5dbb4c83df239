-- What one try of a read or of a write came to: where a signal cut in nothing, and then it is tried again.
--     ReadOutcome      a count of bytes, 0 at the end, is no failure
--     WriteOutcome     a count of 0 is one, since nothing more would be taken
use Rattle.std.specs.Prelude.{◌≡◌, ◌≢◌, ℕ, ◌<◌, Option, Some, None, IsSomeAnd, Result, Ok, Err, IsErr}
use Rattle.std.specs.IoError.{error_kind}
use Rattle.std.specs.declared.io.Error.{Error}
use Rattle.std.specs.declared.io.ErrorKind.TheVariants.{Interrupted}
use Rattle.wh_world.specs.declared.Failed.{Failed}

pub record ErrorOutcome (error : Error) (outcome : Option (Result ℕ Failed)) : Type 0 where
  pub again : error_kind error ≡ Interrupted → outcome ≡ None
  pub failed : error_kind error ≢ Interrupted → IsSomeAnd outcome IsErr

abbrev pub ReadOutcome : Result ℕ Error → Option (Result ℕ Failed) → Type 0
ReadOutcome (Ok count) outcome = outcome ≡ Some (Ok count)
ReadOutcome (Err error) outcome = ErrorOutcome error outcome

pub record CountOutcome (count : ℕ) (outcome : Option (Result ℕ Failed)) : Type 0 where
  pub full : count ≡ 0 → IsSomeAnd outcome IsErr
  pub taken : 0 < count → outcome ≡ Some (Ok count)

abbrev pub WriteOutcome : Result ℕ Error → Option (Result ℕ Failed) → Type 0
WriteOutcome (Ok count) outcome = CountOutcome count outcome
WriteOutcome (Err error) outcome = ErrorOutcome error outcome
