-- What a statement, or a part of it, stands for, and what is found wrong with it.
--     Meant                              with the created name, if it is taken
--     within                             the same as a part of something else
--     first_failing_of, first_failing    the first failing test, each over the whole statement before the next one
use Rattle.std.specs.Prelude.{Option, Some, None, option_map}
use Rattle.wh_naming.specs.Findings as naming
use Rattle.wh_naming.specs.Findings.{Name, Findings, Failing, UnknownName, NameTaken, either}

pub record Meant (A : Type 0) : Type 0 where
  pub value : A
  pub taken_object : Option Name
  pub findings : Findings

abbrev pub within : {A B : Type 0} → (A → B) → Meant A → Meant B
within f m = record { value = f m.value; taken_object = m.taken_object; findings = m.findings }

-- a taken name is found behind unknown objects, and before all else
abbrev pub first_failing_of : Option Name → Findings → Option Failing
first_failing_of None f = naming.first_failing f
first_failing_of (Some created) f = either (option_map UnknownName f.unknown_object) (Some (NameTaken created))

abbrev pub first_failing : {A : Type 0} → Meant A → Option Failing
first_failing m = first_failing_of m.taken_object m.findings
