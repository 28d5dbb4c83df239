-- Partitions that moved in a table between two moments, none of them twice.
--     no_moves         none moved
--     moves_turned     what came with a later version of a table, and what went with it
--     moves_between    what of two versions' partitions the other one hasn't
--     moves_of_table   so of the table of an id
--     stands_none, stands_alone     a source that holds nothing without a table, or its table's partitions
--     moves_more       by place, with one more source
--     standing_more    so of the sources of a moment
use Rattle.std.proofs.Common.{◌≡◌, inl, inr, ◌⊎◌, ℕ, zero, suc, ◌+◌, ◌<◌, Bool, true, false, cond, List, [], ◌∷◌, ◌++◌, map}
use Rattle.std.proofs.Common.{length, take, arith, get_or, Contains, IsTrue, refl, sym, ap, subst, ◌∙◌}
use Rattle.std.specs.Prelude.{◌||◌, not, nat_eq}
use Rattle.std.specs.List.{AllByRecursion}
use Rattle.std.specs.Prelude.{Option, Some, None}
use Rattle.std.specs.Option.{option_map_or}
use Rattle.std.proofs.lemmas.Bool.{eqb-true}
use Rattle.std.proofs.lemmas.Bool.Decides.{nat_tests}
use Rattle.std.proofs.lemmas.List.{take_more}
use Rattle.std.proofs.lemmas.List.Folds.{list_any-append}
use denote.Ref.{Bor}
use Rattle.wh_frame.specs.Partition.{Partition}
use Rattle.wh_filed.specs.Filed.{Filed, partitions_filed, partitions_at}
use Rattle.wh_maintenance.specs.Parts.{has, IsDistinct}
use Rattle.wh_delta.specs.Moved.{same_number, only_in}
use Rattle.wh_state.specs.State.{content_in, rows_at}
use Rattle.wh_state.specs.Stored as file
use Rattle.wh_state.specs.Stored.{StoredVersion, table_meant}
use Rattle.wh_state.specs.Objects.{table_at}
use Rattle.wh_state.specs.Commit.{AllApart}
use Rattle.wh_state.specs.Orderly.{HasRisingRows}
use Rattle.wh_version.specs.History.{versions_of}
use Rattle.wh_version.specs.Times.{data_at}
use Rattle.wh_version.specs.Turnover.{IsMixed, IsTurnover}
use Rattle.wh_version.specs.Moved.{has_part, StandsInOne, IsMoved}
use Rattle.wh_version.proofs.MovedLaws.{moved_among}
use Rattle.wh_catalog.specs.declared.object.StoredObject.{StoredObject}
use Rattle.wh_table.specs.Shown.{HoldsRising}
use Rattle.wh_table.specs.Table.{kept_table, table_of, filed_of}
use Rattle.wh_table.specs.declared.table.StoredTable.{StoredTable}
use Rattle.wh_table.proofs.HoldLaws.{holds_at}
use Rattle.wh_refresh.specs.Objects.{stored_in, filed_at_id}
use Rattle.wh_refresh.specs.Sources.{filed_by}
use Rattle.wh_refresh.specs.declared.sources.SourceHeld.{SourceHeld}
use Rattle.wh_refresh.specs.Asked.{versions_at, Moves, AllMoved, StandsAt, IsBroughtIn, AllStanding}
use Rattle.wh_refresh.proofs.PartLaws.{AreNumberedFrom, numbers_at, once, all_back, part_none, part_alone}

pub no_moves : (objects : List (Bor StoredObject)) (from to id : ℕ) → Moves objects from to id []
no_moves objects from to id = record { moved = tt; once = tt }

-- ---- by number

or_right : (a b : Bool) → b ≡ true → (a || b) ≡ true
or_right true b is = refl
or_right false b is = is

in_front : (n : ℕ) (p : Partition) (ps : List Partition) → has_part n ps ≡ true → has_part n (p ∷ ps) ≡ true
in_front n p ps is = or_right (nat_eq n p.number) (has_part n ps) is

behind : (n : ℕ) (stay came : List Partition) → has_part n came ≡ true → has_part n (stay ++ came) ≡ true
behind n stay came is =
    list_any-append (λ (p : Partition). nat_eq n p.number) stay came ∙ or_right (has_part n stay) (has_part n came) is

self_there : (n : ℕ) → nat_eq n n ≡ true
self_there n = by_test (nat_eq n n) refl
  where
    by_test : (same : Bool) → nat_eq n n ≡ same → same ≡ true
    by_test true is = refl
    by_test false is = grind (arith, nat_tests)

each_there : (fs : List Filed) → AllByRecursion (λ f. has_part f.partition.number (partitions_filed fs) ≡ true) fs
each_there [] = tt
each_there (f ∷ fs) = (
  ap (λ (b : Bool). b || has_part f.partition.number (partitions_filed fs)) (self_there f.partition.number),
  wider fs (each_there fs),
)
  where
    wider : (gs : List Filed) → AllByRecursion (λ g. has_part g.partition.number (partitions_filed fs) ≡ true) gs
        → AllByRecursion (λ g. has_part g.partition.number (partitions_filed (f ∷ fs)) ≡ true) gs
    wider [] each = tt
    wider (g ∷ gs) each = (
      in_front g.partition.number f.partition (partitions_filed fs) each.0,
      wider gs each.1,
    )

in_mixed : (n : ℕ) (left right ps : List Partition) → IsMixed left right ps → has_part n right ≡ true
    → has_part n ps ≡ true
in_mixed n left right [] mixed is = ap (has_part n) (sym mixed.1) ∙ is
in_mixed n left right (p ∷ ps) (inl (rest, same, mixed)) is = in_front n p ps (in_mixed n rest right ps mixed is)
in_mixed n left right (p ∷ ps) (inr (rest, same, mixed)) is =
    by_test (nat_eq n p.number) refl (sym (ap (has_part n) same) ∙ is) (λ found. in_mixed n left rest ps mixed found)
  where
    by_test : (b : Bool) → nat_eq n p.number ≡ b → (b || has_part n rest) ≡ true
        → (has_part n rest ≡ true → has_part n ps ≡ true)
        → has_part n (p ∷ ps) ≡ true
    by_test true eq found more = ap (λ (t : Bool). t || has_part n ps) eq
    by_test false eq found more = in_front n p ps (more found)

-- ---- those that others haven't

part_has : (fs : List Filed) (f : Filed) → has same_number fs f ≡ has_part f.partition.number (partitions_filed fs)
part_has [] f = refl
part_has (g ∷ fs) f = ap (λ (b : Bool). same_number f g || b) (part_has fs f)

only_each : (Q : Filed → Type 0) {P T : Filed → Type 0} (fs others : List Filed) → AllByRecursion P fs
    → AllByRecursion T fs
    → ((f : Filed) → P f → T f → has same_number others f ≡ false → Q f)
    → AllByRecursion Q (only_in fs others)
only_each Q [] others first then so = tt
only_each Q (f ∷ fs) others first then so =
    by_test (has same_number others f) refl (only_each Q fs others first.1 then.1 so)
  where
    by_test : (b : Bool) → has same_number others f ≡ b → AllByRecursion Q (only_in fs others)
        → AllByRecursion Q (cond (not b) (f ∷ only_in fs others) (only_in fs others))
    by_test true there rest = rest
    by_test false there rest = (so f first.0 then.0 there, rest)

only_lacks : (fs others : List Filed) (g : Filed) → has same_number fs g ≡ false
    → has same_number (only_in fs others) g ≡ false
only_lacks [] others g lacks = refl
only_lacks (f ∷ fs) others g lacks =
    by_same (same_number g f) refl lacks (λ lacked. only_lacks fs others g lacked)
  where
    by_test : (b : Bool) → same_number g f ≡ false → has same_number (only_in fs others) g ≡ false
        → has same_number (cond b (f ∷ only_in fs others) (only_in fs others)) g ≡ false
    by_test true other rest = ap (λ (t : Bool). t || has same_number (only_in fs others) g) other ∙ rest
    by_test false other rest = rest

    by_same : (b : Bool) → same_number g f ≡ b → (b || has same_number fs g) ≡ false
        → (has same_number fs g ≡ false → has same_number (only_in fs others) g ≡ false)
        → has same_number (only_in (f ∷ fs) others) g ≡ false
    by_same true is lacked rest = let none : true ≡ false = lacked in absurd cc
    by_same false is lacked rest = by_test (not (has same_number others f)) is (rest lacked)

only_distinct : (fs others : List Filed) → IsDistinct same_number fs → IsDistinct same_number (only_in fs others)
only_distinct [] others once = tt
only_distinct (f ∷ fs) others once =
    by_test (not (has same_number others f)) (only_distinct fs others once.1)
  where
    by_test : (b : Bool) → IsDistinct same_number (only_in fs others)
        → IsDistinct same_number (cond b (f ∷ only_in fs others) (only_in fs others))
    by_test true rest = (only_lacks fs others f once.0, rest)
    by_test false rest = rest

-- ---- what came, and what went

module _ (from to : ℕ) (versions : List StoredVersion) (all : List Filed) where
  abbrev old : List Partition
  old = content_in [] (data_at from versions)

  abbrev new : List Partition
  new = content_in [] (data_at to versions)

  -- what went stands in the later version no more
  is_gone : (f : Filed) → IsMoved from to versions all f → has_part f.partition.number old ≡ true
      → has_part f.partition.number new ≡ false
  is_gone f moved stood = by_side moved.moved
    where
      by_side : StandsInOne f.partition.number old new → has_part f.partition.number new ≡ false
      by_side (inl sides) = sides.1
      by_side (inr sides) = let no : true ≡ false = sym stood ∙ sides.0 in absurd cc

  -- and so has no number in common with what stands there
  none_gone : (f : Filed) → has_part f.partition.number new ≡ true → (went : List Filed)
      → AllByRecursion (IsMoved from to versions all) went
      → AllByRecursion (λ g. has_part g.partition.number old ≡ true) went
      → has same_number went f ≡ false
  none_gone f stands [] moved stood = refl
  none_gone f stands (g ∷ went) moved stood =
      ap (λ (b : Bool). b || has same_number went f) (by_test (same_number f g) refl)
      ∙ none_gone f stands went moved.1 stood.1
    where
      by_test : (b : Bool) → same_number f g ≡ b → b ≡ false
      by_test true same =
          let one : f.partition.number ≡ g.partition.number = eqb-true f.partition.number g.partition.number same in
          let no : true ≡ false = sym stands ∙ ap (λ (n : ℕ). has_part n new) one ∙ is_gone g moved.0 stood.0 in
          absurd cc
      by_test false same = refl

  apart_from : (f : Filed) (came went : List Filed) → has same_number came f ≡ false → has same_number went f ≡ false
      → has same_number (came ++ went) f ≡ false
  apart_from f [] went first second = second
  apart_from f (g ∷ came) went first second =
      by_test (same_number f g) refl first (λ behind. apart_from f came went behind second)
    where
      by_test : (b : Bool) → same_number f g ≡ b → (b || has same_number came f) ≡ false
          → (has same_number came f ≡ false → has same_number (came ++ went) f ≡ false)
          → (same_number f g || has same_number (came ++ went) f) ≡ false
      by_test true same lacked rest = let none : true ≡ false = lacked in absurd cc
      by_test false same lacked rest = ap (λ (b : Bool). b || has same_number (came ++ went) f) same ∙ rest lacked

  both_distinct : (came went : List Filed) → IsDistinct same_number came → IsDistinct same_number went
      → AllByRecursion (λ f. has_part f.partition.number new ≡ true) came
      → AllByRecursion (IsMoved from to versions all) went
      → AllByRecursion (λ g. has_part g.partition.number old ≡ true) went
      → IsDistinct same_number (came ++ went)
  both_distinct [] went came_once went_once stand moved stood = went_once
  both_distinct (f ∷ came) went came_once went_once stand moved stood = (
    apart_from f came went came_once.0 (none_gone f stand.0 went moved stood),
    both_distinct came went came_once.1 went_once stand.1 moved stood,
  )

  both_moved : (came went : List Filed) → AllByRecursion (IsMoved from to versions all) came
      → AllByRecursion (IsMoved from to versions all) went
      → AllByRecursion (IsMoved from to versions all) (came ++ went)
  both_moved [] went first then = then
  both_moved (f ∷ came) went first then = (first.0, both_moved came went first.1 then)

  stand_behind : (stay : List Partition) (came some : List Filed) → new ≡ stay ++ partitions_filed came
      → AllByRecursion (λ f. has_part f.partition.number (partitions_filed came) ≡ true) some
      → AllByRecursion (λ f. has_part f.partition.number new ≡ true) some
  stand_behind stay came [] is each = tt
  stand_behind stay came (f ∷ some) is each = (
    ap (has_part f.partition.number) is ∙ behind f.partition.number stay (partitions_filed came) each.0,
    stand_behind stay came some is each.1,
  )

  stood_mixed : (stay : List Partition) (went some : List Filed) → IsMixed stay (partitions_filed went) old
      → AllByRecursion (λ f. has_part f.partition.number (partitions_filed went) ≡ true) some
      → AllByRecursion (λ f. has_part f.partition.number old ≡ true) some
  stood_mixed stay went [] mixed each = tt
  stood_mixed stay went (f ∷ some) mixed each = (
    in_mixed f.partition.number stay (partitions_filed went) old mixed each.0,
    stood_mixed stay went some mixed each.1,
  )

  -- the partitions of each are apart, and so stand once
  pub moves_turned : (came went : List Filed) → AreNumberedFrom 1 all
      → IsTurnover (partitions_filed went) (partitions_filed came) old new
      → AllByRecursion (IsMoved from to versions all) came
      → AllByRecursion (IsMoved from to versions all) went
      → AllByRecursion HasRisingRows (partitions_filed came)
      → AllByRecursion HasRisingRows (partitions_filed went)
      → AllApart [] (partitions_filed came)
      → AllApart [] (partitions_filed went)
      → AllByRecursion (IsMoved from to versions all) (came ++ went) × IsDistinct same_number (came ++ went)
  moves_turned came went numbers turned come go came_rising went_rising came_apart went_apart = (
    both_moved came went come go,
    both_distinct came went
        (once all numbers [] came (moved_among from to versions all came come) came_rising came_apart)
        (once all numbers [] went (moved_among from to versions all went go) went_rising went_apart)
        (stand_behind turned.stay came came turned.after (each_there came)) go
        (stood_mixed turned.stay went went turned.before (each_there went)),
  )

  -- of two versions, by their partitions' numbers
  pub moves_between : (stood held : List Filed)
      → partitions_filed stood ≡ old
      → partitions_filed held ≡ new
      → AllByRecursion (Contains all) stood
      → AllByRecursion (Contains all) held
      → IsDistinct same_number stood
      → IsDistinct same_number held
      → AllByRecursion (IsMoved from to versions all) (only_in held stood ++ only_in stood held)
      × IsDistinct same_number (only_in held stood ++ only_in stood held)
  moves_between stood held was is was_among is_among was_once is_once =
      let come = only_each (IsMoved from to versions all) held stood is_among (each_there held) comes in
      let go = only_each (IsMoved from to versions all) stood held was_among (each_there stood) goes in
      let stand = only_each (λ f. has_part f.partition.number new ≡ true) held stood is_among (each_there held)
      (λ f among there not. sym (ap (has_part f.partition.number) is) ∙ there) in
      let stand_before = only_each (λ f. has_part f.partition.number old ≡ true) stood held was_among (each_there stood)
      (λ f among there not. sym (ap (has_part f.partition.number) was) ∙ there) in (
        both_moved (only_in held stood) (only_in stood held) come go,
        both_distinct (only_in held stood) (only_in stood held) (only_distinct held stood is_once)
            (only_distinct stood held was_once) stand go stand_before,
      )
    where
      comes : (f : Filed) → Contains all f → has_part f.partition.number (partitions_filed held) ≡ true
          → has same_number stood f ≡ false → IsMoved from to versions all f
      comes f among there not = record {
        among = among;
        moved = inr (
          sym (ap (has_part f.partition.number) was) ∙ sym (part_has stood f) ∙ not,
          sym (ap (has_part f.partition.number) is) ∙ there,
        );
      }

      goes : (f : Filed) → Contains all f → has_part f.partition.number (partitions_filed stood) ≡ true
          → has same_number held f ≡ false → IsMoved from to versions all f
      goes f among there not = record {
        among = among;
        moved = inl (
          sym (ap (has_part f.partition.number) was) ∙ there,
          sym (ap (has_part f.partition.number) is) ∙ sym (part_has held f) ∙ not,
        );
      }

-- ---- of a table

all_mixed : (P : Partition → Type 0) (left right ps : List Partition) → IsMixed left right ps → AllByRecursion P ps
    → AllByRecursion P right
all_mixed P left right [] mixed each = subst (AllByRecursion P) (sym mixed.1) tt
all_mixed P left right (p ∷ ps) (inl (rest, same, mixed)) each = all_mixed P rest right ps mixed each.1
all_mixed P left right (p ∷ ps) (inr (rest, same, mixed)) each =
    subst (AllByRecursion P) (sym same) (each.0, all_mixed P left rest ps mixed each.1)

versions_found : (objects : List (Bor StoredObject)) (id : ℕ) (t : file.StoredTable)
    → Some t ≡ table_at (stored_in objects) id → t.versions ≡ versions_at objects id
versions_found objects id t is = ap (λ found. option_map_or (λ t. t.versions) found []) is

pub moves_of_table : (objects : List (Bor StoredObject)) (id from to : ℕ) (t : StoredTable) (came went : List Filed)
    → Some (table_of t) ≡ table_at (stored_in objects) id
    → filed_of t ≡ filed_at_id objects id
    → AllApart [] (partitions_filed went)
    → AllApart [] (partitions_filed came)
    → IsTurnover (partitions_filed went) (partitions_filed came)
    (content_in [] (data_at from (table_of t).versions)) (content_in [] (data_at to (table_of t).versions))
    → AllByRecursion (IsMoved from to (table_of t).versions (filed_of t)) went
    → AllByRecursion (IsMoved from to (table_of t).versions (filed_of t)) came
    → Moves objects from to id (came ++ went)
unfolding versions_of kept_table
moves_of_table objects id from to t came went found filed went_apart came_apart turned go come =
    let versions = (table_of t).versions in
    let old = content_in [] (data_at from versions) in
    let new = content_in [] (data_at to versions) in
    let numbers : AreNumberedFrom 1 (filed_of t) =
    subst (AreNumberedFrom 1) (sym filed) (numbers_at objects id) in
    let moved = moves_turned from to versions (filed_of t) came went numbers turned come go
    (all_back HasRisingRows turned.stay (partitions_filed came)
    (subst (AllByRecursion HasRisingRows) turned.after (holds_at t to new refl).rising))
    (all_mixed HasRisingRows turned.stay (partitions_filed went) old turned.before (holds_at t from old refl).rising)
    came_apart went_apart in
    record {
      moved = subst (λ (vs : List StoredVersion). AllByRecursion (IsMoved from to vs (filed_at_id objects id))
          (came ++ went)) (versions_found objects id (table_of t) found)
          (subst (λ (fs : List Filed). AllByRecursion (IsMoved from to versions fs) (came ++ went)) filed moved.0);
      once = moved.1;
    }

pub stands_none : (objects : List (Bor StoredObject)) (id moment : ℕ) (source : SourceHeld)
    → None ≡ table_at (stored_in objects) id
    → source.filed.items ≡ []
    → StandsAt objects moment id source
stands_none objects id moment source found none = record {
  stand = ap partitions_at none ∙ ap (λ found. content_in [] (data_at moment (option_map_or (λ t. t.versions) found [])))
      found;
  part = part_none (filed_at_id objects id) source.filed.items none;
}

pub stands_alone : (objects : List (Bor StoredObject)) (id moment : ℕ) (t : StoredTable) (source : SourceHeld)
    → Some (table_of t) ≡ table_at (stored_in objects) id
    → filed_of t ≡ filed_at_id objects id
    → AllByRecursion (Contains (filed_of t)) (filed_by source)
    → HoldsRising (partitions_at source.filed.items) (rows_at (table_meant (table_of t)) moment)
    → partitions_at source.filed.items ≡ content_in [] (data_at moment (table_of t).versions)
    → StandsAt objects moment id source
stands_alone objects id moment t source found filed among holds stand = record {
  stand = stand ∙ ap (λ (vs : List StoredVersion). content_in [] (data_at moment vs))
      (versions_found objects id (table_of t) found);
  part = part_alone (filed_of t) (filed_at_id objects id) source.filed.items
      (rows_at (table_meant (table_of t)) moment) filed among holds;
}

-- ---- by place

pub moves_more : (objects : List (Bor StoredObject)) (from to : ℕ) (ids : List ℕ) (i : ℕ)
    (came new_came went new_went : List SourceHeld) (c w : SourceHeld)
    → i < length ids
    → new_came ≡ came ++ c ∷ []
    → new_went ≡ went ++ w ∷ []
    → AllMoved objects from to (take i ids) came went
    → Moves objects from to (get_or ids i 0) (filed_by c ++ filed_by w)
    → AllMoved objects from to (take (i + 1) ids) new_came new_went
moves_more objects from to ids i came new_came went new_went c w within is_came is_went all one =
    subst (λ (xs : List ℕ). AllMoved objects from to xs new_came new_went) (sym (take_more ids i 0 within))
    (subst (λ (cs : List SourceHeld). AllMoved objects from to (take i ids ++ get_or ids i 0 ∷ []) cs new_went)
    (sym is_came)
    (subst (λ (ws : List SourceHeld). AllMoved objects from to (take i ids ++ get_or ids i 0 ∷ []) (came ++ c ∷ []) ws)
    (sym is_went) (moves_next (take i ids) came went all)))
  where
    moves_next : (xs : List ℕ) (cs ws : List SourceHeld) → AllMoved objects from to xs cs ws
        → AllMoved objects from to (xs ++ get_or ids i 0 ∷ []) (cs ++ c ∷ []) (ws ++ w ∷ [])
    moves_next [] [] [] each = (one, tt)
    moves_next (x ∷ xs) (c ∷ cs) (w ∷ ws) each = (each.0, moves_next xs cs ws each.1)
    moves_next [] [] (w ∷ ws) each = absurd each
    moves_next [] (c ∷ cs) ws each = absurd each
    moves_next (x ∷ xs) [] ws each = absurd each
    moves_next (x ∷ xs) (c ∷ cs) [] each = absurd each

pub standing_more : (objects : List (Bor StoredObject)) (brought : List ℕ) (moment : ℕ) (ids : List ℕ) (i : ℕ)
    (sources new : List SourceHeld) (source : SourceHeld)
    → i < length ids
    → new ≡ sources ++ source ∷ []
    → AllStanding objects brought moment (take i ids) sources
    → (IsBroughtIn objects brought (get_or ids i 0) source ⊎ StandsAt objects moment (get_or ids i 0) source)
    → AllStanding objects brought moment (take (i + 1) ids) new
standing_more objects brought moment ids i sources new source within pushed all one =
    subst (λ (xs : List ℕ). AllStanding objects brought moment xs new) (sym (take_more ids i 0 within))
    (subst (AllStanding objects brought moment (take i ids ++ get_or ids i 0 ∷ [])) (sym pushed)
    (next (take i ids) sources all))
  where
    next : (xs : List ℕ) (ss : List SourceHeld) → AllStanding objects brought moment xs ss
        → AllStanding objects brought moment (xs ++ get_or ids i 0 ∷ []) (ss ++ source ∷ [])
    next [] [] each = (one, tt)
    next (x ∷ xs) (s ∷ ss) each = (each.0, next xs ss each.1)
    next [] (s ∷ ss) each = absurd each
    next (x ∷ xs) [] each = absurd each
