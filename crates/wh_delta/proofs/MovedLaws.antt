-- What moved between two instances is a turn of each source.
--     numbers           partitions are named by their numbers
--     bag_viewed        the bag of a source is that of its view
--     views_turn        what moved of sources is a turn at each place
--     moved_turns       so sources with the partitions and rows that moved are changes from one instance to another
--     all_views, views_held_all     what holds of the partitions that moved holds of those of the sources made of them
use Rattle.std.specs.Prelude.{◌≡◌, ℕ, zero, suc, true, nat_eq, List, [], ◌∷◌, ◌++◌, map}
use Rattle.std.specs.List.{flat_map, AllByRecursion}
use Rattle.std.proofs.Common.{refl, sym, ap, subst, ◌∙◌, inl, inr}
use Rattle.std.proofs.lemmas.Bool.Decides.{eqb_tells}
use Rattle.std.proofs.lemmas.List.{map-append}
use Rattle.wh_frame.specs.Partition.{Partition}
use Rattle.wh_filed.specs.Filed.{Filed, filed_at, loaded_of, partitions_filed}
use Rattle.wh_meaning.specs.Bag.{Bag, no_rows, bag_of, plus}
use Rattle.wh_meaning.specs.Query.{Instance, source_in}
use Rattle.wh_meaning.proofs.BagLaws.{bag_of-append, plus-assoc, no_rows-plus}
use Rattle.wh_exec.specs.declared.source.Source.{Source}
use Rattle.wh_exec.specs.declared.source.Source.TheVariants.{Parts, Loaded, Rows}
use Rattle.wh_exec.specs.Source.{parts_bag, bag_in, instance_in, filed_of, filed_in}
use Rattle.wh_maintenance.specs.Turn.{IsTurn}
use Rattle.wh_maintenance.specs.Parts.{IsNaming, AgreesWith, AgreeWith}
use Rattle.wh_maintenance.specs.Delta.{AreTurns}
use Rattle.wh_maintenance.proofs.Parts.{parts_turn}
use Rattle.wh_delta.specs.Moved.{same_number, only_in, View, view_of, views_of, rows_at, filed_bag, view_bag}
use Rattle.wh_delta.specs.Moved.{filed_views, moved_of, IsNumbered, AllNumbered, AreNumbered}

-- ---- names

number-turned : (a b : ℕ) → nat_eq a b ≡ nat_eq b a
number-turned a b = elim (eqb_tells a b) [
  | inl t ↦ elim (eqb_tells b a) [ inl u ↦ t.0 ∙ sym u.0 | inr u ↦ absurd (u.1 (sym t.1)) ]
  | inr t ↦ elim (eqb_tells b a) [ inl u ↦ absurd (t.1 (sym u.1)) | inr u ↦ t.0 ∙ sym u.0 ]
]

number-is : (a b : ℕ) → nat_eq a b ≡ true → a ≡ b
number-is a b e = elim (eqb_tells a b) [ inl t ↦ t.1 | inr t ↦ cc (t.0, e) ]

pub numbers : IsNaming same_number
numbers = record {
  turned = λ f g. number-turned f.partition.number g.partition.number;
  alike = λ f g e h. ap (λ n. nat_eq n h.partition.number) (number-is f.partition.number g.partition.number e);
}

agrees : (f : Filed) (gs : List Filed)
    → AllByRecursion (λ g. same_number f g ≡ true → f.partition ≡ g.partition) gs
    → AgreesWith same_number rows_at f gs
agrees f [] all = tt
agrees f (g ∷ gs) all = (
  λ t. ap (λ p. bag_of (map (λ e. e.1) p.rows))
      (sym (all.0 (number-turned f.partition.number g.partition.number ∙ t))),
  agrees f gs all.1,
)

agree : (fs gs : List Filed)
    → AllByRecursion (λ f. AllByRecursion (λ g. same_number f g ≡ true → f.partition ≡ g.partition) gs) fs
    → AgreeWith same_number rows_at fs gs
agree [] gs all = tt
agree (f ∷ fs) gs all = (agrees f gs all.0, agree fs gs all.1)

-- ---- bags

filed_listed : (fs : List Filed) → parts_bag (partitions_filed fs) ≡ filed_bag fs
filed_listed [] = refl
filed_listed (f ∷ fs) =
    ap bag_of (map-append (λ e. e.1) f.partition.rows (flat_map (λ p. p.rows) (partitions_filed fs)))
    ∙ bag_of-append (map (λ e. e.1) f.partition.rows) _
    ∙ ap (plus (rows_at f)) (filed_listed fs)

parts_append : (ps qs : List Partition) → parts_bag (ps ++ qs) ≡ plus (parts_bag ps) (parts_bag qs)
parts_append [] qs = sym (no_rows-plus (parts_bag qs))
parts_append (p ∷ ps) qs =
    ap bag_of (map-append (λ e. e.1) p.rows (flat_map (λ p. p.rows) (ps ++ qs)))
    ∙ bag_of-append (map (λ e. e.1) p.rows) _
    ∙ ap (plus (bag_of (map (λ e. e.1) p.rows))) (parts_append ps qs)
    ∙ sym (plus-assoc (bag_of (map (λ e. e.1) p.rows)) (parts_bag ps) (parts_bag qs))
    ∙ ap (λ b. plus b (parts_bag qs)) (sym (ap bag_of (map-append (λ e. e.1) p.rows (flat_map (λ p. p.rows) ps))
    ∙ bag_of-append (map (λ e. e.1) p.rows) _))

pub bag_viewed : (source : Source) → bag_in source ≡ view_bag (view_of source)
bag_viewed (Parts p) =
    parts_append (partitions_filed (filed_at p.filed.now)) p.made.now
    ∙ ap (λ b. plus b (parts_bag p.made.now)) (filed_listed (filed_at p.filed.now))
bag_viewed (Loaded p) = sym (no_rows-plus (parts_bag (loaded_of p.loaded.now ++ p.made.now)))
bag_viewed (Rows rows) = sym (no_rows-plus (bag_of rows.now))

abbrev pub bags : List View → Instance
bags views = map view_bag views

pub viewed : (sources : List Source) → instance_in sources ≡ bags (views_of sources)
viewed [] = refl
viewed (source ∷ rest) = (λ i. bag_viewed source i ∷ viewed rest i)

-- ---- turns

-- and rows that all go and all come
beside : (old new comes goes was is : Bag) → IsTurn old new comes goes
    → IsTurn (plus old was) (plus new is) (plus comes is) (plus goes was)
beside old new comes goes was is turn = record {
  stays = turn.stays;
  was = ap (λ b. plus b was) turn.was ∙ plus-assoc turn.stays goes was;
  is = ap (λ b. plus b is) turn.is ∙ plus-assoc turn.stays comes is;
}

one_turn : (v o : View) → IsNumbered v.0 o.0
    → IsTurn (view_bag v) (view_bag o) (view_bag (only_in o.0 v.0, o.1)) (view_bag (only_in v.0 o.0, v.1))
one_turn v o is =
    beside (filed_bag v.0) (filed_bag o.0) (filed_bag (only_in o.0 v.0)) (filed_bag (only_in v.0 o.0)) v.1 o.1
    (parts_turn same_number numbers rows_at v.0 o.0 is.old_once is.new_once (agree v.0 o.0 is.one))

none_turn : IsTurn no_rows no_rows no_rows no_rows
none_turn = record { stays = no_rows; was = sym (no_rows-plus no_rows); is = sym (no_rows-plus no_rows) }

abbrev pub AtPlace : List View → List View → ℕ → Type 0
AtPlace old new place = IsTurn (source_in (bags old) place) (source_in (bags new) place)
    (source_in (bags (moved_of new old)) place) (source_in (bags (moved_of old new)) place)

all_goes : (v : View) → IsNumbered v.0 [] → IsTurn (view_bag v) no_rows no_rows (view_bag (only_in v.0 [], v.1))
all_goes v is = subst (λ b. IsTurn (view_bag v) b b (view_bag (only_in v.0 [], v.1))) (no_rows-plus no_rows)
    (one_turn v ([], no_rows) is)

all_comes : (o : View) → IsNumbered [] o.0 → IsTurn no_rows (view_bag o) (view_bag (only_in o.0 [], o.1)) no_rows
all_comes o is = subst (λ b. IsTurn b (view_bag o) (view_bag (only_in o.0 [], o.1)) b) (no_rows-plus no_rows)
    (one_turn ([], no_rows) o is)

pub views_turn : (old new : List View) → AllNumbered old new → (place : ℕ) → AtPlace old new place
views_turn [] [] is place = none_turn
views_turn [] (o ∷ os) is zero = all_comes o is.0
views_turn [] (o ∷ os) is (suc place) = views_turn [] os is.1 place
views_turn (v ∷ vs) [] is zero = all_goes v is.0
views_turn (v ∷ vs) [] is (suc place) = views_turn vs [] is.1 place
views_turn (v ∷ vs) (o ∷ os) is zero = one_turn v o is.0
views_turn (v ∷ vs) (o ∷ os) is (suc place) = views_turn vs os is.1 place

pub moved_turns : (old new comes goes : List Source) → AreNumbered old new
    → views_of comes ≡ moved_of (views_of new) (views_of old) → views_of goes ≡ moved_of (views_of old) (views_of new)
    → AreTurns (record { old = instance_in old; comes = instance_in comes; goes = instance_in goes }) (instance_in new)
moved_turns old new comes goes is came gone place =
    subst (λ b. IsTurn b (source_in (instance_in new) place) (source_in (instance_in comes) place)
    (source_in (instance_in goes) place)) (sym (ap (λ b. source_in b place) (viewed old)))
    (subst (λ b. IsTurn (source_in (bags (views_of old)) place) b (source_in (instance_in comes) place)
    (source_in (instance_in goes) place)) (sym (ap (λ b. source_in b place) (viewed new)))
    (subst (λ b. IsTurn (source_in (bags (views_of old)) place) (source_in (bags (views_of new)) place) b
    (source_in (instance_in goes) place))
    (sym (ap (λ b. source_in b place) (viewed comes ∙ ap bags came)))
    (subst (λ b. IsTurn (source_in (bags (views_of old)) place) (source_in (bags (views_of new)) place)
    (source_in (bags (moved_of (views_of new) (views_of old))) place) b)
    (sym (ap (λ b. source_in b place) (viewed goes ∙ ap bags gone)))
    (views_turn (views_of old) (views_of new) is place))))

-- ---- the partitions of what moved

filed_viewed : (source : Source) → filed_of source ≡ (view_of source).0
filed_viewed (Parts p) = refl
filed_viewed (Loaded p) = refl
filed_viewed (Rows rows) = refl

pub filed_views_of : (sources : List Source) → filed_in sources ≡ filed_views (views_of sources)
filed_views_of [] = refl
filed_views_of (source ∷ rest) = (λ i. filed_viewed source i ++ filed_views_of rest i)

pub moved_filed : (P : Filed → Type 0) (sources : List Source) (views : List View) → views_of sources ≡ views
    → AllByRecursion P (filed_views views) → AllByRecursion P (filed_in sources)
moved_filed P sources views is all =
    subst (AllByRecursion P) (sym (filed_views_of sources ∙ ap filed_views is)) all
