use Rattle.std.proofs.Common.{◌≡◌, take}
use Rattle.std.specs.Prelude.{not, is_some}
use Rattle.std.specs.List.{list_any}
use Rattle.wh_algebra.specs.View.{scalars_of}
use Rattle.wh_naming.specs.Grouping.{regrouped}
use Rattle.wh_naming.specs.Select.{regrouped_all}
use Rattle.wh_core_bind.proofs.group.all_regrouped.Given as goal

abbrev pub invariant-loop-scalar : goal.invariant-loop-scalar
invariant-loop-scalar l = record {
  scalars : scalars_of l.over_groups.items
      ≡ regrouped_all (scalars_of l.keys) l.width (scalars_of (take l.scalar-index l.scalars));
  outside : l.is_outside ≡ list_any (λ s. not (is_some (regrouped (scalars_of l.keys) l.width s)))
      (scalars_of (take l.scalar-index l.scalars));
}
