-- What the change of a query asks for.
--     asked_same         the same, of partitions that are the same by place
--     asked_by_views     of sources, by their views
--     asked_moved        of what is held of two instances: of what moved between them
--     between_moved      so it is asked for between the instances
--     asked_below        below a Group, as above it
--     below_first, below_both     of what came, and of what went too, below a Group
use Rattle.std.proofs.Common.{◌≡◌, ℕ, List, [], ◌++◌, Option, Some, None, refl, sym, ap, subst, ◌∙◌}
use Rattle.std.specs.Prelude.{map, option_map, slice_get, true, false, Bool, if◌then◌else◌}
use Rattle.std.specs.Option.{option_map_or}
use Rattle.std.proofs.lemmas.Option.{slice_get-map}
use Rattle.wh_part.specs.declared.meta.PartId.{PartId}
use Rattle.wh_filed.specs.Filed.{Filed}
use Rattle.wh_filed.specs.Asking.{id_of, AsksAmong}
use Rattle.wh_filed.proofs.AskingLaws.{among_on, among_first}
use Rattle.wh_meaning.specs.Query.{Query, Scan, Filter, Project, Join, UnionAll, Group}
use Rattle.wh_maintenance.specs.Delta.{linear}
use Rattle.wh_maintenance.specs.Above.{Grouping, grouping}
use Rattle.wh_exec.specs.declared.source.Source.{Source}
use Rattle.wh_exec.specs.declared.source.Source.TheVariants.{Parts, Loaded, Rows}
use Rattle.wh_exec.specs.Source.{filed_of}
use Rattle.wh_exec.specs.Asked.{filed_by, asked_for}
use Rattle.wh_delta.specs.Moved.{View, view_of, views_of, moved_of}
use Rattle.wh_delta.specs.Asked.{asked_over, filed_in_view, moved_at, asked_between}

asked_same : (q : Query) (f g : ℕ → List Filed) → ((place : ℕ) → f place ≡ g place)
    → asked_for q f ≡ asked_for q g
asked_same (Scan place) f g same = ap (map id_of) (same place)
asked_same (Filter q condition) f g same = asked_same q f g same
asked_same (Project q items) f g same = asked_same q f g same
asked_same (Join left right on) f g same =
    λ i. asked_same right f g same i ++ asked_same left f g same i
asked_same (UnionAll left right) f g same =
    λ i. asked_same left f g same i ++ asked_same right f g same i
asked_same (Group q by calls) f g same = asked_same q f g same

in_view : (s : Source) → filed_of s ≡ (view_of s).0
in_view (Parts parts) = refl
in_view (Loaded parts) = refl
in_view (Rows rows) = refl

found_in_view : (found : Option Source) → option_map_or filed_of found []
    ≡ option_map_or (λ (v : View). v.0) (option_map view_of found) []
found_in_view None = refl
found_in_view (Some s) = in_view s

by_views : (sources : List Source) (place : ℕ) → filed_by sources place ≡ filed_in_view (views_of sources) place
by_views sources place = found_in_view (slice_get sources place)
    ∙ ap (λ (found : Option View). option_map_or (λ v. v.0) found []) (sym (slice_get-map view_of sources place))

pub asked_by_views : (q : Query) (sources : List Source) (views : List View) → views_of sources ≡ views
    → asked_for q (filed_by sources) ≡ asked_for q (filed_in_view views)
asked_by_views q sources views is =
    asked_same q (filed_by sources) (filed_in_view views) (λ place. by_views sources place
    ∙ ap (λ (vs : List View). filed_in_view vs place) is)

asked_moved : (q : Query) (old new comes goes : List Source)
    → views_of comes ≡ moved_of (views_of new) (views_of old)
    → views_of goes ≡ moved_of (views_of old) (views_of new)
    → asked_over q comes goes ≡ asked_between q old new
asked_moved q old new comes goes came went =
    let first = asked_by_views q comes (moved_of (views_of new) (views_of old)) came in
    let second = asked_by_views q goes (moved_of (views_of old) (views_of new)) went in
    λ i. first i ++ second i

pub between_moved : (q : Query) (old new comes goes : List Source) (before after : List PartId)
    → views_of comes ≡ moved_of (views_of new) (views_of old)
    → views_of goes ≡ moved_of (views_of old) (views_of new)
    → AsksAmong (asked_over q comes goes) before after
    → AsksAmong (asked_between q old new) before after
between_moved q old new comes goes before after came went =
    subst (λ names. AsksAmong names before after) (asked_moved q old new comes goes came went)

asked_below : (q : Query) (g : Grouping) (filed : ℕ → List Filed) → grouping q ≡ Some g
    → asked_for g.below filed ≡ asked_for q filed
unfolding grouping
asked_below (Scan place) g filed is = let none : None ≡ Some g = is in absurd cc
asked_below (Filter q condition) g filed is = asked_below q g filed is
asked_below (Project q items) g filed is = asked_below q g filed is
asked_below (Join left right on) g filed is = let none : None ≡ Some g = is in absurd cc
asked_below (UnionAll left right) g filed is = let none : None ≡ Some g = is in absurd cc
asked_below (Group q by calls) g filed is = where_linear (linear q) is
  where
    where_linear : (b : Bool)
        → (if b then Some (record { below = q; by = by; calls = calls }) else None) ≡ Some g
        → asked_for g.below filed ≡ asked_for q filed
    where_linear true found = sym (ap (λ (o : Option Grouping). option_map_or (λ g. asked_for g.below filed) o []) found)
    where_linear false found = let none : None ≡ Some g = found in absurd cc

pub below_first : (q : Query) (g : Grouping) (comes goes : List Source) (before after : List PartId)
    → grouping q ≡ Some g
    → AsksAmong (asked_for g.below (filed_by comes)) before after
    → AsksAmong (asked_over q comes goes) before after
below_first q g comes goes before after is asks =
    among_first (asked_for q (filed_by comes)) (asked_for q (filed_by goes)) before after
    (subst (λ names. AsksAmong names before after) (asked_below q g (filed_by comes) is) asks)

pub below_both : (q : Query) (g : Grouping) (comes goes : List Source) (before between after : List PartId)
    → grouping q ≡ Some g
    → AsksAmong (asked_for g.below (filed_by comes)) before between
    → AsksAmong (asked_for g.below (filed_by goes)) between after
    → AsksAmong (asked_over q comes goes) before after
below_both q g comes goes before between after is one two =
    among_on (asked_for q (filed_by comes)) (asked_for q (filed_by goes)) before between after
    (subst (λ names. AsksAmong names before between) (asked_below q g (filed_by comes) is) one)
    (subst (λ names. AsksAmong names between after) (asked_below q g (filed_by goes) is) two)
