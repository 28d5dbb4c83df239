use Rattle.std.proofs.Common.{List, ℕ, Some, ◌++◌, ap, subst, sym, ◌∙◌}
use Rattle.wh_filed.specs.Filed.{AllShown}
use Rattle.wh_record.specs.View.{commit_of}
use Rattle.wh_state.specs.State.{State}
use Rattle.wh_catalog.specs.Catalog.{stored_of, filed_of}
use Rattle.wh_decide.proofs.CatalogLemmas.{means_by}
use Rattle.wh_engine.proofs.PlaceLemmas.{payload_shows}
use Rattle.wh_engine.proofs.replay.carry_out.Goals as goal

-- with the commit's stamp as the last one
pub returns-in-Ok-clause-means : goal.returns-in-Ok-clause-means
returns-in-Ok-clause-means c =
    means_by c.settle.new.self (stored_of c.args.catalog.now) (commit_of c.in_ok-commit.commit)
    (c.settle.ensures.stored ∙ c.in-Ok.ensures.applied)
    (ap (λ (s : State). s.last) c.settle.ensures.state ∙ c.in-Ok.ensures.last)

-- the payload stands there
pub returns-in-Ok-clause-shown : goal.returns-in-Ok-clause-shown
returns-in-Ok-clause-shown c = λ image rest here shown.
    let commit = commit_of c.in_ok-commit.commit in
    let spelled = rw c.in_ok-commit.was at c.in-Some.ensures.found in
    let staged = payload_shows (filed_of c.args.catalog.now) (filed_of c.stage.new.self) commit c.args.position image
    rest spelled.0 c.in-Ok.ensures.filed (here ∙ ap (λ (p : List ℕ). p ++ rest) spelled.1) shown in
    subst (AllShown (Some image)) (sym c.settle.ensures.filed) staged
