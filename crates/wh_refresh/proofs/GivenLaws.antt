-- What is handed to the change of a query's rows.
--     sources_hold      what holds of the partitions of all objects holds of those of sources
--     given_hold        and of those that moved
--     bags_are          the bags of sources
--     views_are, numbered_held     their partitions are told apart by their numbers
--     under             what is so of an answer where something holds
use Rattle.std.proofs.Common.{◌≡◌, ℕ, List, Contains, Result, Ok, Err, IfOk, sym, ap, subst, ◌∙◌}
use Rattle.std.specs.List.{AllByRecursion}
use denote.Ref.{Bor}
use Rattle.wh_meaning.specs.Query.{Instance}
use Rattle.wh_exec.specs.Source.{filed_in, instance_in}
use Rattle.wh_exec.specs.declared.source.Source.{Source}
use Rattle.wh_filed.specs.Filed.{Filed}
use Rattle.wh_delta.specs.Moved.{View, AllNumbered, views_of, moved_in}
use Rattle.wh_delta.proofs.MovedLaws.{filed_views_of}
use Rattle.wh_version.proofs.Among.{each_held}
use Rattle.wh_catalog.specs.declared.object.StoredObject.{StoredObject}
use Rattle.wh_refresh.specs.Sources.{bags_held, filed_held, views_held, AreParts}
use Rattle.wh_refresh.specs.declared.sources.SourceHeld.{SourceHeld}
use Rattle.wh_refresh.proofs.PartLaws.{all_numbered, moved_hold}

pub sources_hold : (P : Filed → Type 0) (all : List Filed) (given sources : List Source) (lent held : List SourceHeld)
    → given ≡ sources → filed_in sources ≡ filed_held lent → lent ≡ held
    → AllByRecursion (Contains all) (filed_held held) → AllByRecursion P all → AllByRecursion P (filed_in given)
sources_hold P all given sources lent held same filed is among each =
    subst (AllByRecursion P) (sym (ap filed_in same ∙ filed ∙ ap filed_held is))
    (each_held P (filed_held held) all among each)

pub given_hold : (P : Filed → Type 0) (some others : List Source) → AllByRecursion P (filed_in some)
    → AllByRecursion P (moved_in some others)
given_hold P some others each =
    moved_hold P (views_of some) (views_of others) (subst (AllByRecursion P) (filed_views_of some) each)

pub bags_are : (given sources : List Source) (lent held : List SourceHeld) (bags : Instance) → given ≡ sources
    → instance_in sources ≡ bags_held lent → lent ≡ held → bags_held held ≡ bags → instance_in given ≡ bags
bags_are given sources lent held bags same rows is holds = ap instance_in same ∙ rows ∙ ap bags_held is ∙ holds

pub views_are : (given sources : List Source) (lent held : List SourceHeld) → given ≡ sources
    → views_of sources ≡ views_held lent → lent ≡ held → views_of given ≡ views_held held
views_are given sources lent held same views is = ap views_of same ∙ views ∙ ap views_held is

pub numbered_held : (objects : List (Bor StoredObject)) (ids : List ℕ) (old new : List SourceHeld)
    (was is : List View) → was ≡ views_held old → is ≡ views_held new → AreParts objects ids old
    → AreParts objects ids new → AllNumbered was is
numbered_held objects ids old new was is before behind old_parts new_parts =
    subst (λ (vs : List View). AllNumbered vs is) (sym before)
    (subst (AllNumbered (views_held old)) (sym behind) (all_numbered objects ids old new old_parts new_parts))

-- what is so of an answer where something holds
pub under : {A X E : Type 0} (r : Result X E) (P : X → Type 0) → (A → IfOk r P) → IfOk r (λ x. A → P x)
under (Ok x) P so = so
under (Err e) P so = tt
