-- The net of what is carried through a query is the net change of its rows.
--     net_found, none_found
--     held_views     what sources hold that are made of what is held
use Rattle.std.specs.Prelude.{◌≡◌, List, Option, Some, None}
use Rattle.std.proofs.Common.{ap, ◌∙◌}
use Rattle.wh_meaning.specs.Bag.{Bag}
use Rattle.wh_meaning.specs.BagChange.{IsNet}
use Rattle.wh_meaning.specs.Query.{Query, Instance, eval}
use Rattle.wh_exec.specs.declared.source.Source.{Source}
use Rattle.wh_bag.specs.declared.change.Signed.{Signed}
use Rattle.wh_maintenance.specs.Carried.{Change, IsCarried}
use Rattle.wh_maintenance.specs.Delta.{Sources, AreTurns, Carries}
use Rattle.wh_maintenance.proofs.Turns.{changed_of_turn, net_of_sides}
use Rattle.wh_delta.specs.declared.moved.Held.{Held}
use Rattle.wh_delta.specs.Moved.{View, views_of}
use Rattle.wh_delta.specs.Views.{views_held}
use Rattle.wh_delta.specs.Found.{FindsNet}

some : (old : Bag) (now : Option Bag) (c : Change) (change : Signed) → IsCarried old now (Some c)
    → IsNet c.goes c.comes change.plus change.minus → FindsNet old now (Some change)
some old None c change h net = h
some old (Some new) c change h net =
    net_of_sides old new c.comes c.goes change.plus change.minus (changed_of_turn old new c.comes c.goes h) net

none : (old : Bag) (now : Option Bag) → IsCarried old now None → FindsNet old now None
none old None h = h
none old (Some new) h = h

pub net_found : (q : Query) (s : Sources) (c : Change) (change : Signed) → Carries q s (Some c)
    → IsNet c.goes c.comes change.plus change.minus → (new : Instance) → AreTurns s new → (was : Bag)
    → eval q s.old ≡ Some was → FindsNet was (eval q new) (Some change)
net_found q s c change h net new turns was e = some was (eval q new) c change (h.leads new was turns e) net

pub none_found : (q : Query) (s : Sources) → Carries q s None → (new : Instance) → AreTurns s new → (was : Bag)
    → eval q s.old ≡ Some was → FindsNet was (eval q new) None
none_found q s h new turns was e = none was (eval q new) (h.leads new was turns e)

pub held_views : (lent sources : List Source) (held' held : List Held) (views : List View) → lent ≡ sources
    → views_of sources ≡ views_held held' → held' ≡ held → views_held held ≡ views → views_of lent ≡ views
held_views lent sources held' held views same made kept is = ap views_of same ∙ made ∙ ap views_held kept ∙ is
