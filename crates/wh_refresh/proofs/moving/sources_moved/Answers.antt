use Rattle.std.proofs.Common.{List, Contains, ℕ, subst}
use Rattle.std.proofs.lemmas.List.{take_all}
use Rattle.wh_plan.proofs.ListLaws.{each_next}
use Rattle.wh_refresh.specs.Objects.{objects_in, filed_at_objects}
use Rattle.wh_refresh.specs.Sources.{bags_held, filed_by, AllTurn}
use Rattle.wh_refresh.specs.Asked.{AllMoved}
use Rattle.wh_refresh.proofs.MovingLaws.{turns_pushed}
use Rattle.wh_refresh.proofs.MovesLaws.{moves_more}
use Rattle.wh_refresh.proofs.moving.sources_moved.Goals as goal

pub loop-id-preserved : goal.loop-id-preserved
loop-id-preserved c = let at = c.loop-id in record {
  turns = turns_pushed (objects_in c.args.objects.now) c.args.from c.args.to c.args.ids.now at.id-index at.came.items _
      at.went.items _ c.in_ok-comes.comes c.in_ok-comes.goes c.loop-id-test.true c.in_ok-push.ensures.items
      c.in_ok-push-2.ensures.items at.invariant.turns c.in_ok-comes.ensures.turns;
  moves = moves_more c.args.objects.now c.args.from c.args.to c.args.ids.now at.id-index at.came.items _ at.went.items _
      c.in_ok-comes.comes c.in_ok-comes.goes c.loop-id-test.true c.in_ok-push.ensures.items c.in_ok-push-2.ensures.items
      at.invariant.moves c.in_ok-comes.ensures.moves;
  came = each_next (Contains (filed_at_objects c.args.objects.now)) filed_by at.came.items _ c.in_ok-comes.comes
      c.in_ok-push.ensures.items at.invariant.came c.in_ok-comes.ensures.came;
  went = each_next (Contains (filed_at_objects c.args.objects.now)) filed_by at.went.items _ c.in_ok-comes.goes
      c.in_ok-push-2.ensures.items at.invariant.went c.in_ok-comes.ensures.went;
}

pub returns-clause-turns : goal.returns-clause-turns
returns-clause-turns c =
    subst (λ (xs : List ℕ). AllTurn (objects_in c.args.objects.now) c.args.from c.args.to xs
    (bags_held c.loop-id.came.items) (bags_held c.loop-id.went.items))
    (take_all c.loop-id.id-index c.args.ids.now c.loop-id-test.false) c.loop-id.invariant.turns

pub returns-clause-moves : goal.returns-clause-moves
returns-clause-moves c =
    subst (λ (xs : List ℕ). AllMoved c.args.objects.now c.args.from c.args.to xs c.loop-id.came.items
    c.loop-id.went.items)
    (take_all c.loop-id.id-index c.args.ids.now c.loop-id-test.false) c.loop-id.invariant.moves
