use Rattle.std.proofs.Common.{List, Contains, subst}
use Rattle.std.specs.List.{AllByRecursion}
use Rattle.wh_filed.specs.Filed.{Filed, filed_at}
use Rattle.wh_version.proofs.history.History.candidates.Goals as goal

pub returns-clause-among : goal.returns-clause-among
returns-clause-among c =
    subst (λ (all : List Filed). AllByRecursion (Contains all) (filed_at c.in_ok-found.found.items))
    c.kept.ensures.filed c.in_ok-found.ensures.among
