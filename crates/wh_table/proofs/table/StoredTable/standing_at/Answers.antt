use Rattle.std.proofs.Common.{[], Option, option_map, Contains, ap, sym, ◌∙◌}
use Rattle.wh_filed.specs.Filed.{filed_at, partitions_at}
use Rattle.wh_state.specs.State.{content_in}
use Rattle.wh_state.specs.Stored.{StoredVersion}
use Rattle.wh_version.specs.Version.{version_in, filed_by}
use Rattle.wh_version.proofs.Among.{each_held}
use Rattle.wh_table.specs.Table.{filed_of}
use Rattle.wh_table.proofs.HoldLaws.{holds_at}
use Rattle.wh_table.proofs.table.StoredTable.standing_at.Goals as goal

pub returns-in_default-clause-holds : goal.returns-in_default-clause-holds
returns-in_default-clause-holds c =
    holds_at c.args.self.now c.args.moment (partitions_at c.new.result.items)
    (ap partitions_at c.new.ensures.items
    ∙ ap (λ (v : Option StoredVersion). content_in [] v)
    (ap (option_map version_in) (sym c.in_default.is) ∙ c.at.ensures.version))

pub returns-clause-holds : goal.returns-clause-holds
returns-clause-holds c =
    holds_at c.args.self.now c.args.moment (partitions_at c.in_ok-standing.standing.items)
    (c.in_ok-standing.ensures.content
    ∙ ap (λ (v : Option StoredVersion). content_in [] v)
    (ap (option_map version_in) (sym c.in-Some.is) ∙ c.at.ensures.version))

pub returns-clause-among : goal.returns-clause-among
returns-clause-among c =
    each_held (Contains (filed_of c.args.self.now)) (filed_at c.in_ok-standing.standing.items)
    (filed_by c.in-Some.version) c.in_ok-standing.ensures.among c.in-Some.ensures.among
