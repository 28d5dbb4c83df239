use Rattle.std.proofs.Common.{◌≡◌, List, [], ◌++◌, Contains, sym, ap, subst, ◌∙◌}
use Rattle.std.specs.List.{AllByRecursion}
use denote.Ref.{Bor}
use Rattle.wh_filed.specs.Filed.{Filed, filed_at, partitions_at}
use Rattle.wh_meaning.specs.Bag.{Bag, no_rows}
use Rattle.wh_exec.specs.Source.{parts_bag}
use Rattle.wh_maintenance.specs.Turn.{IsTurn}
use Rattle.wh_state.specs.Moments.{bag_at}
use Rattle.wh_version.proofs.Among.{each_held}
use Rattle.wh_version.proofs.MovedLaws.{moved_among}
use Rattle.wh_table.specs.Table.{table_of, filed_of}
use Rattle.wh_refresh.specs.Objects.{objects_in, filed_at_objects}
use Rattle.wh_refresh.specs.Sources.{bag_held, filed_by}
use Rattle.wh_refresh.specs.Asked.{Moves}
use Rattle.wh_refresh.proofs.MovingLaws.{turn_alone, turn_none}
use Rattle.wh_refresh.proofs.MovesLaws.{no_moves, moves_of_table}
use Rattle.wh_refresh.proofs.moving.source_moved.Goals as goal

none_in : (filed : List (Bor Filed)) → filed ≡ [] → parts_bag (partitions_at filed) ≡ no_rows
none_in filed is = ap (λ (fs : List (Bor Filed)). parts_bag (partitions_at fs)) is

none_of : (all : List Filed) (filed : List (Bor Filed)) → filed ≡ [] → AllByRecursion (Contains all) (filed_at filed)
none_of all filed is = subst (λ (fs : List (Bor Filed)). AllByRecursion (Contains all) (filed_at fs)) (sym is) tt

pub returns-in_default-clause-turns : goal.returns-in_default-clause-turns
returns-in_default-clause-turns c =
    turn_none (objects_in c.args.objects.now) c.args.id c.args.from c.args.to _ _ (sym c.in_default.ensures.meant)
    (c.filed_alone-came.ensures.bag ∙ none_in _ c.new.ensures.items)
    (c.filed_alone-went.ensures.bag ∙ none_in _ c.new-in_default.ensures.items)

pub returns-in_default-clause-came : goal.returns-in_default-clause-came
returns-in_default-clause-came c =
    subst (AllByRecursion (Contains (filed_at_objects c.args.objects.now))) (sym c.filed_alone-came.ensures.filed)
    (none_of (filed_at_objects c.args.objects.now) _ c.new.ensures.items)

pub returns-in_default-clause-went : goal.returns-in_default-clause-went
returns-in_default-clause-went c =
    subst (AllByRecursion (Contains (filed_at_objects c.args.objects.now))) (sym c.filed_alone-went.ensures.filed)
    (none_of (filed_at_objects c.args.objects.now) _ c.new-in_default.ensures.items)

pub returns-clause-turns : goal.returns-clause-turns
returns-clause-turns c =
    let objects = objects_in c.args.objects.now in
    let old : Bag = bag_at objects c.args.from c.args.id in
    let new : Bag = bag_at objects c.args.to c.args.id in
    let turn = turn_alone objects c.args.id c.args.from c.args.to c.in-Some.table.now
    (partitions_at c.in_ok-went.field-0.went.items) (partitions_at c.in_ok-went.field-0.came.items)
    (sym c.in-Some.ensures.meant) c.in_ok-went.ensures.parts in
    subst (λ (b : Bag). IsTurn old new b (bag_held c.filed_alone-went-2.result)) (sym c.filed_alone-came-2.ensures.bag)
    (subst (λ (b : Bag). IsTurn old new (parts_bag (partitions_at c.in_ok-went.field-0.came.items)) b)
    (sym c.filed_alone-went-2.ensures.bag) turn)

pub returns-clause-came : goal.returns-clause-came
returns-clause-came c =
    subst (AllByRecursion (Contains (filed_at_objects c.args.objects.now))) (sym c.filed_alone-came-2.ensures.filed)
    (each_held (Contains (filed_at_objects c.args.objects.now)) (filed_at c.in_ok-went.field-0.came.items)
    (filed_of c.in-Some.table.now)
    (moved_among c.args.from c.args.to (table_of c.in-Some.table.now).versions (filed_of c.in-Some.table.now)
    (filed_at c.in_ok-went.field-0.came.items) c.in_ok-went.ensures.came) c.in-Some.ensures.among)

pub returns-clause-went : goal.returns-clause-went
returns-clause-went c =
    subst (AllByRecursion (Contains (filed_at_objects c.args.objects.now))) (sym c.filed_alone-went-2.ensures.filed)
    (each_held (Contains (filed_at_objects c.args.objects.now)) (filed_at c.in_ok-went.field-0.went.items)
    (filed_of c.in-Some.table.now)
    (moved_among c.args.from c.args.to (table_of c.in-Some.table.now).versions (filed_of c.in-Some.table.now)
    (filed_at c.in_ok-went.field-0.went.items) c.in_ok-went.ensures.went) c.in-Some.ensures.among)

pub returns-in_default-clause-moves : goal.returns-in_default-clause-moves
returns-in_default-clause-moves c =
    let came : filed_by c.filed_alone-came.result ≡ [] = c.filed_alone-came.ensures.filed
    ∙ ap filed_at c.new.ensures.items in
    let went : filed_by c.filed_alone-went.result ≡ [] = c.filed_alone-went.ensures.filed
    ∙ ap filed_at c.new-in_default.ensures.items in
    subst (λ (fs : List Filed). Moves c.args.objects.now c.args.from c.args.to c.args.id fs)
    (sym (λ i. came i ++ went i)) (no_moves c.args.objects.now c.args.from c.args.to c.args.id)

pub returns-clause-moves : goal.returns-clause-moves
returns-clause-moves c =
    let turned = c.in_ok-went.ensures.turned in
    let came = c.filed_alone-came-2.ensures.filed in
    let went = c.filed_alone-went-2.ensures.filed in
    subst (λ (fs : List Filed). Moves c.args.objects.now c.args.from c.args.to c.args.id fs)
    (sym (λ i. came i ++ went i))
    (moves_of_table c.args.objects.now c.args.id c.args.from c.args.to c.in-Some.table.now
    (filed_at c.in_ok-went.field-0.came.items) (filed_at c.in_ok-went.field-0.went.items) c.in-Some.ensures.stored
    c.in-Some.ensures.filed turned.went_apart turned.came_apart c.in_ok-went.ensures.parts c.in_ok-went.ensures.went
    c.in_ok-went.ensures.came)
