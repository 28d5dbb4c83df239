use Rattle.std.proofs.Common.{◌≡◌, ◌++◌, take, codes}
use Rattle.std.specs.List.{flat_map}
use Rattle.wh_value.specs.Value.{literal}
use Rattle.wh_value.specs.View.{value_of}
use Rattle.wh_text.proofs.print.put_other_values.Given as goal

abbrev pub invariant-loop-value : goal.invariant-loop-value
invariant-loop-value l =
    l.out ≡ l.initial.out ++ flat_map (λ value. codes " | " ++ literal (value_of value)) (take l.value-index l.values)
