-- The numbered calls of a form in memory, and which of them fail.
use Rattle.std.specs.Prelude.{ℕ, ◌+◌, ◌==◌, min, Bool, List}
use Rattle.std.specs.List.{list_any}

-- a count after one more; one at the end of its type stays there
abbrev pub next : ℕ → ℕ
next count = min (count + 1) 18446744073709551615

-- how many calls were made, how often one failed, and the numbers of the calls that are to fail
pub record CallCount : Type 0 where
  pub made : ℕ
  pub faults : ℕ
  pub failing : List ℕ

-- before the first call
abbrev pub no_calls : List ℕ → CallCount
no_calls failing = record { made = 0; faults = 0; failing = failing }

-- whether the next call is to fail: its number, from 1, is one of those
abbrev pub is_due : CallCount → Bool
is_due calls = list_any (λ number. number == next calls.made) calls.failing

-- after a call that didn't fail
abbrev pub passed : CallCount → CallCount
passed calls = record { made = next calls.made; faults = calls.faults; failing = calls.failing }

-- after a call that failed
abbrev pub failed : CallCount → CallCount
failed calls = record { made = next calls.made; faults = next calls.faults; failing = calls.failing }
