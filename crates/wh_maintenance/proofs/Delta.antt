-- The change of a query's bag is carried through its operators.
--     delta-carries     from the bag before, that of afterwards, or none exactly where there is none
--     net_delta         its net is the net change of the two bags
use Rattle.std.specs.Prelude.{◌≡◌, Option, Some, None}
use Rattle.wh_meaning.specs.Bag.{Bag}
use Rattle.wh_meaning.specs.BagChange.{IsNet}
use Rattle.wh_meaning.specs.Query.{Query, Scan, Filter, Project, Join, UnionAll, Group, Instance, eval}
use Rattle.wh_maintenance.specs.Turn.{less}
use Rattle.wh_maintenance.specs.Carried.{Change, IsCarried}
use Rattle.wh_maintenance.specs.Delta.{Sources, AreTurns, Carries, delta}
use Rattle.wh_maintenance.proofs.Less.{count-less}
use Rattle.wh_maintenance.proofs.Turns.{changed_of_turn, net_of_sides}
use Rattle.wh_maintenance.proofs.Carrying.{carries-scan, carries-filter, carries-project, carries-join}
use Rattle.wh_maintenance.proofs.Carrying.{carries-union, carries-group}

pub delta-carries : (s : Sources) (q : Query) → Carries q s (delta q s)
unfolding delta
delta-carries s (Scan source) = carries-scan s source
delta-carries s (Filter q condition) = carries-filter s q condition (delta q s) (delta-carries s q)
delta-carries s (Project q items) = carries-project s q items (delta q s) (delta-carries s q)
delta-carries s (Join p q on) =
    carries-join s p q on (delta p s) (delta q s) (delta-carries s p) (delta-carries s q)
delta-carries s (UnionAll p q) =
    carries-union s p q (delta p s) (delta q s) (delta-carries s p) (delta-carries s q)
delta-carries s (Group q by calls) = carries-group s q by calls (delta q s) (delta-carries s q)

pub net_of-net : (old new : Bag) → IsNet old new (less new old) (less old new)
net_of-net old new = record { added = count-less new old; removed = count-less old new }

-- ---- what a caller has

-- the net of what is found is the net change; none is found exactly where the query has no bag afterwards
abbrev pub IsNetFound : Bag → Option Bag → Option Change → Type 0
IsNetFound old None None = Unit {0}
IsNetFound old None (Some c) = ⊥
IsNetFound old (Some new) None = ⊥
IsNetFound old (Some new) (Some c) = IsNet old new (less c.comes c.goes) (less c.goes c.comes)

net_found : (old : Bag) (new : Option Bag) (found : Option Change) → IsCarried old new found → IsNetFound old new found
net_found old None None h = h
net_found old None (Some c) h = h
net_found old (Some new) None h = h
net_found old (Some new) (Some c) h = net_of_sides old new c.comes c.goes (less c.comes c.goes) (less c.goes c.comes)
    (changed_of_turn old new c.comes c.goes h) (net_of-net c.goes c.comes)

pub net_delta : (q : Query) (s : Sources) (new : Instance) → AreTurns s new → (o : Bag) → eval q s.old ≡ Some o
    → IsNetFound o (eval q new) (delta q s)
net_delta q s new turns o e = net_found o (eval q new) (delta q s) ((delta-carries s q).leads new o turns e)
