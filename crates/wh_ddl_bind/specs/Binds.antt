-- What binding a statement gives.
--     Answers     the first failing test, or an answer where there is none
--     IsBound     a bound statement is the one that is meant, and nothing is found wrong with it
--     Binds       that, or the first failing test
use Rattle.std.specs.Prelude.{◌≡◌, Option, Some, None, Result, Ok, Err}
use Rattle.wh_naming.specs.Findings as wrong
use Rattle.wh_naming.specs.View.{failing_of}
use Rattle.wh_bind.specs.declared.fault.BindFault.{BindFault}
use Rattle.wh_bind.specs.declared.fault.BindFault.TheVariants.{Failing, OutOfMemory}
use Rattle.wh_ddl_naming.specs.Meant.{Meant, first_failing}
use Rattle.wh_ddl_naming.specs.Statements as naming
use Rattle.wh_ddl_bind.specs.View.{bound_of}
use Rattle.wh_ddl_bind.specs.declared.bound.Bound.{Bound}

abbrev pub Answers : {A : Type 0} → Result A BindFault → Option wrong.Failing → Type 0
Answers (Ok a) failing = failing ≡ None
Answers (Err (Failing f)) failing = failing ≡ Some (failing_of f)
Answers (Err OutOfMemory) failing = Unit {0}

pub record IsBound (b : Bound) (meant : Meant naming.Bound) : Type 0 where
  pub nothing_found : first_failing meant ≡ None
  pub bound : bound_of b ≡ meant.value

abbrev pub Binds : Result Bound BindFault → Meant naming.Bound → Type 0
Binds (Ok b) meant = IsBound b meant
Binds (Err (Failing f)) meant = first_failing meant ≡ Some (failing_of f)
Binds (Err OutOfMemory) meant = Unit {0}
