-- What binding a SELECT gives.
--     IsBound     a bound SELECT is the one that is meant, and nothing is found wrong with it
--     Binds       that, or the first failing test
use Rattle.std.specs.Prelude.{◌≡◌, Some, None, Result, Ok, Err}
use Rattle.wh_algebra.specs.View.{query_of}
use Rattle.wh_listing.specs.View.{keys_of}
use Rattle.wh_naming.specs.View.{failing_of}
use Rattle.wh_naming.specs.Findings.{first_failing}
use Rattle.wh_naming.specs.Select as naming
use Rattle.wh_bind.specs.declared.fault.BindFault.{BindFault}
use Rattle.wh_bind.specs.declared.fault.BindFault.TheVariants.{Failing, OutOfMemory}
use Rattle.wh_bind.specs.declared.select.BoundSelect.{BoundSelect}

pub record IsBound (b : BoundSelect) (meant : naming.BoundSelect) : Type 0 where
  pub nothing_found : first_failing meant.findings ≡ None
  pub query : query_of b.query ≡ meant.query
  pub names : b.names.items ≡ meant.names
  pub sources : b.sources.items ≡ meant.sources
  pub keys : keys_of b.keys.items ≡ meant.keys
  pub is_wide : b.is_wide ≡ meant.is_wide

abbrev pub Binds : Result BoundSelect BindFault → naming.BoundSelect → Type 0
Binds (Ok b) meant = IsBound b meant
Binds (Err (Failing failing)) meant = first_failing meant.findings ≡ Some (failing_of failing)
Binds (Err OutOfMemory) meant = Unit {0}
