use Rattle.std.proofs.Common.{◌≡◌, ◌+◌, ◌++◌, ℕ, map, subst, rules}
use Rattle.wh_filed.specs.Filed.{AreAmong}
use Rattle.wh_record.specs.View.{change_of}
use Rattle.wh_record.specs.Places.{filed_in_changes}
use Rattle.wh_catalog.specs.Catalog.{filed_of, kept_of}
use Rattle.wh_catalog.proofs.catalog.Catalog.stage.Goals as goal

pub returns-in-Ok-clause-filed : goal.returns-in-Ok-clause-filed
unfolding kept_of
returns-in-Ok-clause-filed c =
    let first : c.in-Some.first ≡ c.args.at + 12 = search rules in
    let P : ℕ → Type 0 = λ n. AreAmong (filed_of c.carry_out_all.new.self)
    (filed_of c.args.self.now ++ filed_in_changes n (map change_of c.args.commit.changes.items)) in
    subst P first c.in-Ok.ensures.filed
