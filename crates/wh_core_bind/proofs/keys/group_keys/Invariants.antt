use Rattle.std.proofs.Common.{◌≡◌, take}
use Rattle.wh_algebra.specs.View.{scalars_of}
use Rattle.wh_naming.specs.Select.{key_scalars, key_findings}
use Rattle.wh_expr_bind.specs.View.{entries_of, findings_of}
use Rattle.wh_core_bind.proofs.keys.group_keys.Given as goal

abbrev pub invariant-loop-key : goal.invariant-loop-key
invariant-loop-key l = record {
  scalars : scalars_of l.scalars.items ≡ key_scalars (entries_of l.entries) (take l.key-index l.group);
  findings : findings_of l.findings ≡ key_findings (entries_of l.entries) (take l.key-index l.group);
}
