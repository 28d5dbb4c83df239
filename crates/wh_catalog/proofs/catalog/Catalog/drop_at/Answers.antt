use Rattle.std.proofs.Common.{◌∙◌, sym}
use Rattle.wh_state.specs.State.{at_id}
use Rattle.wh_state.specs.Commit.{IsLiveObject}
use Rattle.wh_catalog.specs.Catalog.{objects_of, kept_of}
use Rattle.wh_catalog.proofs.Steps.{ok_with}
use Rattle.wh_catalog.proofs.TaskConditions.{Decides-may_go}
use Rattle.wh_catalog.proofs.catalog.Catalog.drop_at.Goals as goal

pub returns-then-not-may_go-clause-not_applicable : goal.returns-then-not-may_go-clause-not_applicable
returns-then-not-may_go-clause-not_applicable c = λ _ applies.
    let yes = (Decides-may_go (objects_of c.args.self.now) c.args.id).1 applies.1 in cc

pub returns-clause-applies : goal.returns-clause-applies
unfolding kept_of
returns-clause-applies c =
    ok_with (IsLiveObject (at_id (objects_of c.args.self.now) c.args.id)) c.drop_object.result
    ((Decides-may_go (objects_of c.args.self.now) c.args.id).0 (sym c.may_go.ensures ∙ c.if-not-may_go.false))
    c.drop_object.ensures.applies

pub returns-clause-not_applicable : goal.returns-clause-not_applicable
unfolding kept_of
returns-clause-not_applicable c = λ why applies. c.drop_object.ensures.not_applicable why applies.0
