use Rattle.std.proofs.Common.{◌∙◌, ap, arith, cond, Some, is_eq}
use Rattle.std.proofs.lemmas.Bool.Decides.{nat_tests}
use Rattle.std.specs.BTreeMap.{is_at}
use Rattle.std.specs.Map.{lookup}
use Rattle.wh_value.specs.Value.{row_cmp}
use Rattle.wh_algebra.specs.View.{calls_of}
use Rattle.wh_aggregate.proofs.MapLemmas.{one_group}
use Rattle.wh_aggregate.proofs.groups.Groups.new.Goals as goal

pub returns : goal.returns
returns c =
    let key = c.new.result in
    one_group c.args.by.now (calls_of c.args.calls.now) c.insert.new.self.entries key c.in_ok-new.field-0
    (grind (arith, nat_tests)) c.new.ensures c.in_ok-new.ensures
    (λ q. c.in-Ok.ensures.updates.0 q
    ∙ ap (λ es. cond (is_eq (row_cmp key q)) (Some c.in_ok-new.field-0) (lookup (is_at (row_cmp q)) es))
    c.new-map.ensures.empty)
