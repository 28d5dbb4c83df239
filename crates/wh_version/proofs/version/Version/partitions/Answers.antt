use Rattle.std.proofs.Common.{Contains, sym, subst}
use Rattle.std.specs.List.{AllByRecursion}
use Rattle.wh_version.specs.Lasting.{filed_in, stands_at}
use Rattle.wh_version.proofs.Among.{filtered_held}
use Rattle.wh_version.proofs.version.Version.partitions.Goals as goal

pub returns-clause-among : goal.returns-clause-among
returns-clause-among c =
    let v = c.args.self.now in
    subst (AllByRecursion (Contains (filed_in v.kept.now))) (sym c.in_ok-found.ensures)
    (filtered_held (stands_at v.place) v.kept.now)
