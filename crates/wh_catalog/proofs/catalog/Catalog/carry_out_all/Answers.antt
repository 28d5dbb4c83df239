use Rattle.std.proofs.Common.{rules, ◌≡◌, ℕ, ◌∷◌, [], ◌++◌, ◌∙◌, ap, sym, subst, map, length, List, arith}
use Rattle.std.specs.Vec.Iter.{into_iter_items}
use Rattle.wh_state.specs.Stored.{StoredObject}
use Rattle.wh_state.specs.Commit.{AllApply, all_changed, changed, GroupsFollow}
use Rattle.wh_filed.specs.Filed.{AreAmong}
use Rattle.wh_record.specs.View.{UnderstoodChange, change_of}
use Rattle.wh_record.specs.Places.{filed_in_change, filed_in_changes}
use Rattle.wh_catalog.specs.Catalog.{kept_of, objects_of, filed_of}
use Rattle.wh_catalog.specs.Undo.{undone}
use Rattle.wh_catalog.proofs.Steps.{undone_more, follows_on, follows_from}
use Rattle.wh_catalog.proofs.FiledLaws.{among_more, among_less}
use Rattle.wh_catalog.proofs.catalog.Catalog.carry_out_all.Goals as goal

pub loop-change-preserved : goal.loop-change-preserved
loop-change-preserved c =
    let at = c.loop-change in
    let stamp = c.args.stamp in
    let change = c.in-Some.change in
    let rest = into_iter_items c.next.new.self in
    let steps : into_iter_items at.change-iterator ≡ change ∷ rest = c.in-Some.ensures.steps.0 in
    let was = at.invariant.count in
    let gone = c.in-Some.ensures.steps.1 in
    let short = ap length steps in
    let after : objects_of c.carry_out.new.self ≡ changed stamp (objects_of at.self) (change_of change) =
    c.in-Ok-carry_out.ensures.changed in
    let P : List UnderstoodChange → Type 0 = λ cs. AllApply stamp (objects_of at.self) (map change_of cs) in
    let Q : List StoredObject → Type 0 = λ os. AllApply stamp os (map change_of rest) in
    let all = filed_of c.args.self.now
    ++ filed_in_changes c.args.first (map change_of (into_iter_items c.into_iter-change-iterator.result)) in
    let R : List UnderstoodChange → Type 0 = λ cs.
    AreAmong (filed_of at.self ++ filed_in_changes at.at (map change_of cs)) all in
    let F : List UnderstoodChange → Type 0 = λ cs.
    GroupsFollow stamp (objects_of at.self) at.due (map change_of cs) in
    let S : ℕ → Type 0 = λ n.
    AreAmong (filed_of at.self ++ (filed_in_change at.at (change_of change) ++ filed_in_changes n (map change_of rest))) all in
    record {
      apply = λ more. at.invariant.apply (subst P (sym steps) (c.in-Ok-carry_out.ensures.applies, subst Q after more));
      applied =
          λ all. let here : P (change ∷ rest) = subst P steps (at.invariant.applied all) in subst Q (sym after) here.1;
      follow = λ more. at.invariant.follow (subst F (sym steps)
          (follows_on stamp (objects_of at.self) (objects_of c.carry_out.new.self) at.due c.groups_due-due.result
          (change_of change) (map change_of rest) after c.groups_due-due.ensures (search rules) more));
      followed = λ all.
          follows_from stamp (objects_of at.self) (objects_of c.carry_out.new.self) at.due c.groups_due-due.result
          (change_of change) (map change_of rest) after c.groups_due-due.ensures
          (subst F steps (at.invariant.followed all));
      changed = ap (λ os. all_changed stamp os (map change_of rest)) after
          ∙ ap (λ cs. all_changed stamp (objects_of at.self) (map change_of cs)) (sym steps) ∙ at.invariant.changed;
      filed = among_more (filed_of at.self) (filed_of c.carry_out.new.self) (filed_in_change at.at (change_of change))
          (filed_in_changes c.in-Ok.behind (map change_of rest)) all c.in-Ok-carry_out.ensures.filed
          (subst S (sym c.in-Ok.ensures) (subst R steps at.invariant.filed));
      back = ap (λ ss. undone ss (kept_of c.carry_out.new.self))
          (c.push_reserved.ensures.items ∙ ap (λ ss. ss ++ c.in-Ok-carry_out.step ∷ []) c.reserve.ensures.items)
          ∙ undone_more at.steps.items c.in-Ok-carry_out.step (kept_of c.carry_out.new.self)
          ∙ ap (undone at.steps.items) c.in-Ok-carry_out.ensures.back
          ∙ at.invariant.back;
      count = omega arith;
      last = c.carry_out.ensures.last ∙ at.invariant.last;
      committed = c.carry_out.ensures.committed ∙ at.invariant.committed;
    }

pub returns-clause-filed : goal.returns-clause-filed
returns-clause-filed c =
    let at = c.loop-change in
    let given = into_iter_items c.into_iter-change-iterator.result in
    let same : given ≡ c.args.changes.items = search rules in
    let P : List UnderstoodChange → Type 0 = λ cs.
    AreAmong (filed_of at.self) (filed_of c.args.self.now ++ filed_in_changes c.args.first (map change_of cs)) in
    subst P same
    (among_less (filed_of at.self) (filed_in_changes at.at (map change_of (into_iter_items at.change-iterator)))
    (filed_of c.args.self.now ++ filed_in_changes c.args.first (map change_of given)) at.invariant.filed)
