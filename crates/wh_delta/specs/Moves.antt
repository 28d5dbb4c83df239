-- What changes of the code stand for.
--     rows_bag        the bag of rows that were found, if they are there
--     change_of       rows that come and rows that go
--     change_found    the same, if they are there
--     turning         sources before, and what of each comes and goes
--     sources_of      so of those that code goes over
--     NetsTo          the net of a change that was found
--     Turns           the rows of a query before, and its change
--     AreCovered, AreShown     a fetch covers the partitions of all sources, and shows them
use Rattle.std.specs.Prelude.{◌≡◌, List, Option, Some, None, option_map, Vec}
use Rattle.std.specs.Global.{Global}
use Rattle.wh_value.specs.declared.row.Row.{Row}
use Rattle.wh_meaning.specs.Bag.{Bag, bag_of}
use Rattle.wh_meaning.specs.BagChange.{IsNet}
use Rattle.wh_meaning.specs.Query.{Query, Instance, eval}
use Rattle.wh_frame.specs.Partition.{Partition}
use Rattle.wh_part.specs.declared.meta.PartMeta.{PartMeta}
use Rattle.wh_filed.specs.Fetching.{AllShownBy, AllCovered}
use Rattle.wh_exec.specs.Source.{instance_in, filed_in}
use Rattle.wh_exec.specs.declared.source.Source.{Source}
use Rattle.wh_maintenance.specs.Carried.{Change}
use Rattle.wh_maintenance.specs.Delta.{Sources, Carries}
use Rattle.wh_delta.specs.declared.moves.Moves.{Moves}
use Rattle.wh_delta.specs.declared.moves.Turned.{Turned}
use Rattle.wh_delta.specs.declared.moves.Changing.{Changing}

abbrev pub rows_bag : Option (Vec Row Global) → Option Bag
rows_bag found = option_map (λ rows. bag_of rows.items) found

abbrev pub change_of : Moves → Change
change_of m = record { comes = bag_of m.comes.items; goes = bag_of m.goes.items }

abbrev pub change_found : Option Moves → Option Change
change_found found = option_map change_of found

abbrev pub turning : Instance → List Source → List Source → Sources
turning old comes goes = record { old = old; comes = instance_in comes; goes = instance_in goes }

abbrev pub sources_of : Changing → Sources
sources_of s = turning (instance_in s.old.now) s.comes.now s.goes.now

-- the net of what was found, if something was
abbrev pub NetsTo : Option Change → Option Moves → Type 0
NetsTo None None = Unit {0}
NetsTo None (Some m) = ⊥
NetsTo (Some c) None = ⊥
NetsTo (Some c) (Some m) = IsNet c.goes c.comes (bag_of m.comes.items) (bag_of m.goes.items)

-- the rows of a query before, and its change; where nothing is found there is none afterwards
abbrev pub Turns : Query → Sources → Option Turned → Type 0
Turns q s None = Carries q s None
Turns q s (Some t) = (eval q s.old ≡ Some (bag_of t.old.items)) × Carries q s (Some (change_of t.moves))

-- ---- the partitions of all sources

pub record AreCovered (covers : PartMeta → Type 0) (s : Changing) : Type 0 where
  pub old : AllCovered covers (filed_in s.old.now)
  pub comes : AllCovered covers (filed_in s.comes.now)
  pub goes : AllCovered covers (filed_in s.goes.now)

pub record AreShown (contents : PartMeta → Option Partition) (s : Changing) : Type 0 where
  pub old : AllShownBy contents (filed_in s.old.now)
  pub comes : AllShownBy contents (filed_in s.comes.now)
  pub goes : AllShownBy contents (filed_in s.goes.now)
