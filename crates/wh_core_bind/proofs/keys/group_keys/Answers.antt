use Rattle.std.proofs.Common.{◌≡◌, ap, arith}
use Rattle.std.proofs.lemmas.Grind.{common_steps}
use Rattle.wh_scalar.specs.View.{scalar_of}
use Rattle.wh_naming.specs.Typing.{Typed}
use Rattle.wh_naming.specs.Select.{plain}
use Rattle.wh_expr_bind.specs.View.{entries_of, findings_of}
use Rattle.wh_core_bind.proofs.Turns.{keys_turn, findings_turn}
use Rattle.wh_core_bind.proofs.keys.group_keys.Goals as goal

pub loop-key-preserved : goal.loop-key-preserved
loop-key-preserved c =
    let entries = entries_of c.args.entries.now in
    let keys =
    keys_turn entries c.args.group.now c.loop-key.key-index c.key-item.result c.loop-key-test.true c.key-item.is in
    let found = findings_turn entries c.args.group.now c.loop-key.key-index c.key-item.result
    c.loop-key-test.true c.key-item.is in
    let scalar : scalar_of c.in_ok-x.x.scalar ≡ (plain entries c.key-item.result).scalar =
    ap (λ (t : Typed). t.scalar) c.in_ok-x.ensures in
    let findings : findings_of c.in_ok-x.x.findings ≡ (plain entries c.key-item.result).findings =
    ap (λ (t : Typed). t.findings) c.in_ok-x.ensures in
    record { scalars = grind (arith, common_steps); findings = grind (arith, common_steps) }
