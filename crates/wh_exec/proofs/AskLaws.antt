-- What a plan asks for by its last operator.
--     among_same     by names that are the same
--     among_as       by a query that is the same
use Rattle.std.proofs.Common.{◌≡◌, ℕ, List, subst}
use Rattle.wh_part.specs.declared.meta.PartId.{PartId}
use Rattle.wh_filed.specs.Filed.{Filed}
use Rattle.wh_filed.specs.Asking.{AsksAmong}
use Rattle.wh_meaning.specs.Query.{Query}
use Rattle.wh_exec.specs.Asked.{asked_for}

pub among_same : (names others before after : List PartId) → names ≡ others → AsksAmong names before after
    → AsksAmong others before after
among_same names others before after is = subst (λ ns. AsksAmong ns before after) is

pub among_as : (p q : Query) (filed : ℕ → List Filed) (before after : List PartId) → p ≡ q
    → AsksAmong (asked_for p filed) before after
    → AsksAmong (asked_for q filed) before after
among_as p q filed before after is = subst (λ r. AsksAmong (asked_for r filed) before after) is
