use Rattle.std.proofs.Common.{◌++◌, List, Contains, ap, subst, ◌∙◌}
use Rattle.std.specs.List.{AllByRecursion}
use Rattle.wh_filed.specs.Filed.{Filed, filed_at, partitions_at}
use Rattle.wh_state.specs.Edits.{without}
use Rattle.wh_table.proofs.HoldLaws.{holds_beside}
use Rattle.wh_table.proofs.table.StoredTable.staying.Goals as goal

pub returns-clause-holds : goal.returns-clause-holds
returns-clause-holds c = λ stamp e is.
    let edited = c.args.edited.now in
    holds_beside c.args.self.now edited e stamp (partitions_at c.in_ok-staying.staying.items) is
    (ap (λ ps. ps ++ edited.added.items)
    (c.in_ok-staying.ensures.partitions ∙ (λ i. without (c.deref.ensures.value i) (c.kept.ensures.standing i))))

pub returns-clause-among : goal.returns-clause-among
returns-clause-among c =
    subst (λ (all : List Filed). AllByRecursion (Contains all) (filed_at c.in_ok-staying.staying.items))
    c.kept.ensures.filed c.in_ok-staying.ensures.among
