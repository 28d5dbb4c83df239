-- What binding a changing statement gives.
--     IsBound     a bound change is the one that is meant, and nothing is found wrong with it
--     Binds       that, or the first failing test
use Rattle.std.specs.Prelude.{◌≡◌, Some, None, Result, Ok, Err}
use Rattle.wh_naming.specs.View.{failing_of}
use Rattle.wh_naming.specs.Findings.{first_failing}
use Rattle.wh_naming.specs.Changes as naming
use Rattle.wh_bind.specs.declared.fault.BindFault.{BindFault}
use Rattle.wh_bind.specs.declared.fault.BindFault.TheVariants.{Failing, OutOfMemory}
use Rattle.wh_bound_change.specs.View.{change_of}
use Rattle.wh_bound_change.specs.declared.change.BoundChange.{BoundChange}

pub record IsBound (b : BoundChange) (meant : naming.BoundChange) : Type 0 where
  pub nothing_found : first_failing meant.findings ≡ None
  pub target : b.target ≡ meant.target
  pub change : change_of b.change ≡ meant.change
  pub sources : b.sources.items ≡ meant.sources
  pub is_wide : b.is_wide ≡ meant.is_wide

abbrev pub Binds : Result BoundChange BindFault → naming.BoundChange → Type 0
Binds (Ok b) meant = IsBound b meant
Binds (Err (Failing failing)) meant = first_failing meant.findings ≡ Some (failing_of failing)
Binds (Err OutOfMemory) meant = Unit {0}
