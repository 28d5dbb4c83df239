-- What of sources moved between two instances.
--     same_number        two partitions have one number
--     only_in            the partitions of a list whose numbers no partition of another list has
--     View, view_of      of a source: its partitions in the file, and the bag of its rows in memory
--     filed_bag, view_bag, filed_views     the bag of partitions and of a view, and the partitions of views
--     moved_of           of sources by place: the partitions that others don't have, and the rows in memory
--     AreNumbered        by place: no list has a number twice, and partitions of one number in both are one
--     NumbersRise        each partition's number is below the next one's
--     LowerBefore, NoneLowerAt   where a partition would stand among others by its number
--     HoldsFor           what holds of each partition from which the change of a query is worked out
use Rattle.std.specs.Prelude.{◌≡◌, ℕ, ◌+◌, ◌<◌, ◌≤◌, true, false, Bool, nat_eq, List, [], ◌∷◌, ◌++◌, map, length}
use Rattle.std.specs.Prelude.{slice_index_or as get_or}
use Rattle.std.specs.List.{flat_map, AllByRecursion}
use denote.Ref.{Bor}
use Rattle.wh_filed.specs.Filed.{Filed, filed_at, loaded_of}
use Rattle.wh_meaning.specs.Bag.{Bag, bag_of, plus}
use Rattle.wh_meaning.specs.Query.{Query}
use Rattle.wh_exec.specs.declared.source.Source.{Source}
use Rattle.wh_exec.specs.declared.source.Source.TheVariants.{Parts, Loaded, Rows}
use Rattle.wh_exec.specs.Source.{parts_bag, filed_in}
use Rattle.wh_maintenance.specs.Delta.{linear}
use Rattle.wh_maintenance.specs.Parts as parts
use Rattle.wh_maintenance.specs.Parts.{only, IsDistinct}

abbrev pub same_number : Filed → Filed → Bool
same_number f g = nat_eq f.partition.number g.partition.number

abbrev pub only_in : List Filed → List Filed → List Filed
only_in some others = only same_number some others

-- ---- sources

abbrev pub View : Type 0
View = List Filed × Bag

abbrev pub view_of : Source → View
view_of (Parts p) = (filed_at p.filed.now, parts_bag p.made.now)
view_of (Loaded p) = ([], parts_bag (loaded_of p.loaded.now ++ p.made.now))
view_of (Rows rows) = ([], bag_of rows.now)

abbrev pub views_of : List Source → List View
views_of sources = map view_of sources

abbrev pub rows_at : Filed → Bag
rows_at f = bag_of (map (λ e. e.1) f.partition.rows)

abbrev pub filed_bag : List Filed → Bag
filed_bag filed = parts.rows_of rows_at filed

abbrev pub view_bag : View → Bag
view_bag v = plus (filed_bag v.0) v.1

abbrev pub filed_views : List View → List Filed
filed_views views = flat_map (λ v. v.0) views

abbrev pub moved_of : List View → List View → List View
moved_of [] others = []
moved_of (v ∷ vs) [] = (only_in v.0 [], v.1) ∷ moved_of vs []
moved_of (v ∷ vs) (o ∷ os) = (only_in v.0 o.0, v.1) ∷ moved_of vs os

-- the partitions of sources that others at their places don't have
abbrev pub moved_in : List Source → List Source → List Filed
moved_in some others = filed_views (moved_of (views_of some) (views_of others))

-- ---- numbers

pub record IsNumbered (old new : List Filed) : Type 0 where
  pub old_once : IsDistinct same_number old
  pub new_once : IsDistinct same_number new
  pub one : AllByRecursion (λ f. AllByRecursion (λ g. same_number f g ≡ true → f.partition ≡ g.partition) new) old

abbrev pub AllNumbered : List View → List View → Type 0
AllNumbered [] [] = Unit {0}
AllNumbered [] (o ∷ os) = IsNumbered [] o.0 × AllNumbered [] os
AllNumbered (v ∷ vs) [] = IsNumbered v.0 [] × AllNumbered vs []
AllNumbered (v ∷ vs) (o ∷ os) = IsNumbered v.0 o.0 × AllNumbered vs os

abbrev pub AreNumbered : List Source → List Source → Type 0
AreNumbered old new = AllNumbered (views_of old) (views_of new)

-- from a least one on
abbrev pub NumbersRise : ℕ → List Filed → Type 0
NumbersRise least [] = Unit {0}
NumbersRise least (f ∷ fs) = (least ≤ f.partition.number) × NumbersRise (f.partition.number + 1) fs

-- those in front of a place have lower numbers than a partition
abbrev pub LowerBefore : Filed → List (Bor Filed) → ℕ → Type 0
LowerBefore f others place = (k : ℕ) (d : Bor Filed) → k < place
    → (get_or others k d).now.partition.number < f.partition.number

-- and the one at the place hasn't, if there is one
abbrev pub NoneLowerAt : Filed → List (Bor Filed) → ℕ → Type 0
NoneLowerAt f others place = (d : Bor Filed) → place < length others
    → f.partition.number ≤ (get_or others place d).now.partition.number

-- ---- what is read

-- those that moved; and those of the sources before, unless the query is linear
pub record HoldsFor (P : Filed → Type 0) (q : Query) (old new : List Source) : Type 0 where
  pub comes : AllByRecursion P (moved_in new old)
  pub goes : AllByRecursion P (moved_in old new)
  pub stays : linear q ≡ false → AllByRecursion P (filed_in old)
