use Rattle.std.proofs.Common.{Option, false, not, map, ap, ◌∙◌}
use Rattle.std.specs.Option.{option_map_or}
use Rattle.wh_ast.specs.declared.dml.Dml.{Dml}
use Rattle.wh_naming.specs.Changes.{bound_change}
use Rattle.wh_naming.specs.View.{named_of}
use Rattle.wh_state.specs.Task.{Task}
use Rattle.wh_machine.specs.Ticks.{is_held_back}
use Rattle.wh_decide.specs.Sight.{machine_in}
use Rattle.wh_tick.proofs.holding.is_free.Goals as goal

pub returns-in_ok-is_held-in-Some : goal.returns-in_ok-is_held-in-Some
returns-in_ok-is_held-in-Some c =
    let m = machine_in c.args.sight.now in
    let names = map named_of c.args.names.now in
    ap not (c.in_ok-is_held-in-Some.ensures
    ∙ ap (λ (body : Dml). is_held_back m (bound_change names body)) c.get.ensures)
    ∙ ap (λ (found : Option Task).
    option_map_or (λ t. not (is_held_back m (bound_change names t.runs.body))) found false) c.in-Some.ensures

pub returns-in-None : goal.returns-in-None
returns-in-None c =
    let m = machine_in c.args.sight.now in
    let names = map named_of c.args.names.now in
    ap (λ (found : Option Task). option_map_or (λ t. not (is_held_back m (bound_change names t.runs.body))) found false)
    c.in-None.ensures
