-- What came in a table and what went, as a change of its rows.
--     turn_of_lists        partitions that stay, that went and that came are a turn of their rows
--     turn_alone           so of a table between two moments
--     turn_none            nothing came and nothing went where there is no table
--     turns_pushed         sources of ids, with one more
--     turns_given          by place, the sources' rows turn
use Rattle.std.proofs.Common.{◌≡◌, ℕ, zero, suc, ◌+◌, ◌<◌, ◌⊎◌, inl, inr, List, [], ◌∷◌, ◌++◌, map, length, take, get_or}
use Rattle.std.proofs.Common.{Option, Some, None, refl, sym, ap, subst, ◌∙◌}
use Rattle.std.proofs.lemmas.List.{map-append, take_more}
use Rattle.std.specs.List.{flat_map}
use Rattle.std.specs.Option.{option_map_or}
use Rattle.std.specs.FinMap.{values}
use Rattle.wh_frame.specs.Partition.{Partition}
use Rattle.wh_meaning.specs.Bag.{Bag, no_rows, bag_of, plus}
use Rattle.wh_meaning.specs.Query.{Instance, source_in}
use Rattle.wh_meaning.proofs.BagLaws.{bag_of-append, plus-assoc, plus-comm, no_rows-plus, plus-no_rows}
use Rattle.wh_exec.specs.Source.{parts_bag}
use Rattle.wh_maintenance.specs.Turn.{IsTurn}
use Rattle.wh_maintenance.specs.Delta.{AreTurns}
use Rattle.wh_state.specs.State.{Object, content_in, rows_at}
use Rattle.wh_state.specs.Stored.{table_meant}
use Rattle.wh_state.specs.Objects.{table_at}
use Rattle.wh_state.specs.Moments.{bag_at, instance_at}
use Rattle.wh_version.specs.Times.{data_at}
use Rattle.wh_version.specs.Turnover.{IsMixed, IsTurnover}
use Rattle.wh_table.specs.Table.{kept_table, table_of}
use Rattle.wh_table.specs.declared.table.StoredTable.{StoredTable}
use Rattle.wh_table.proofs.HoldLaws.{holds_at, held_bag}
use Rattle.wh_refresh.specs.Sources.{bag_held, bags_held, AllTurn}
use Rattle.wh_refresh.specs.declared.sources.SourceHeld.{SourceHeld}

-- ---- lists of partitions

abbrev rows_in : Partition → Bag
rows_in p = bag_of (map (λ e. e.1) p.rows)

one_more : (p : Partition) (ps : List Partition) → parts_bag (p ∷ ps) ≡ plus (rows_in p) (parts_bag ps)
one_more p ps =
    ap bag_of (map-append (λ e. e.1) p.rows (flat_map (λ q. q.rows) ps))
    ∙ bag_of-append (map (λ e. e.1) p.rows) (map (λ e. e.1) (flat_map (λ q. q.rows) ps))

both_bags : (ps qs : List Partition) → parts_bag (ps ++ qs) ≡ plus (parts_bag ps) (parts_bag qs)
both_bags [] qs = sym (no_rows-plus (parts_bag qs))
both_bags (p ∷ ps) qs =
    one_more p (ps ++ qs)
    ∙ ap (plus (rows_in p)) (both_bags ps qs)
    ∙ sym (plus-assoc (rows_in p) (parts_bag ps) (parts_bag qs))
    ∙ ap (λ (b : Bag). plus b (parts_bag qs)) (sym (one_more p ps))

mixed_bag : (left right ps : List Partition) → IsMixed left right ps
    → parts_bag ps ≡ plus (parts_bag left) (parts_bag right)
mixed_bag left right [] mixed =
    sym (ap (λ (l : List Partition). plus (parts_bag l) (parts_bag right)) mixed.0
    ∙ ap (λ (r : List Partition). plus no_rows (parts_bag r)) mixed.1
    ∙ no_rows-plus no_rows)
mixed_bag left right (p ∷ ps) (inl (rest, is, mixed)) =
    one_more p ps
    ∙ ap (plus (rows_in p)) (mixed_bag rest right ps mixed)
    ∙ sym (plus-assoc (rows_in p) (parts_bag rest) (parts_bag right))
    ∙ ap (λ (b : Bag). plus b (parts_bag right)) (sym (one_more p rest))
    ∙ ap (λ (l : List Partition). plus (parts_bag l) (parts_bag right)) (sym is)
mixed_bag left right (p ∷ ps) (inr (rest, is, mixed)) =
    one_more p ps
    ∙ ap (plus (rows_in p)) (mixed_bag left rest ps mixed ∙ plus-comm (parts_bag left) (parts_bag rest))
    ∙ sym (plus-assoc (rows_in p) (parts_bag rest) (parts_bag left))
    ∙ ap (λ (b : Bag). plus b (parts_bag left)) (sym (one_more p rest))
    ∙ plus-comm (parts_bag (p ∷ rest)) (parts_bag left)
    ∙ ap (λ (r : List Partition). plus (parts_bag left) (parts_bag r)) (sym is)

turn_of_lists : (went came old new : List Partition) → IsTurnover went came old new
    → IsTurn (parts_bag old) (parts_bag new) (parts_bag came) (parts_bag went)
turn_of_lists went came old new turnover = record {
  stays = parts_bag turnover.stay;
  was = mixed_bag turnover.stay went old turnover.before;
  is = ap parts_bag turnover.after ∙ both_bags turnover.stay came;
}

-- ---- a table

bag_then : (t : StoredTable) (moment : ℕ)
    → parts_bag (content_in [] (data_at moment (table_of t).versions))
    ≡ bag_of (values (rows_at (table_meant (table_of t)) moment))
unfolding kept_table
bag_then t moment =
    let ps : List Partition = content_in [] (data_at moment (table_of t).versions) in
    held_bag ps (rows_at (table_meant (table_of t)) moment) (holds_at t moment ps refl)

pub turn_alone : (objects : List Object) (id from to : ℕ) (t : StoredTable) (went came : List Partition)
    → table_at objects id ≡ Some (table_meant (table_of t))
    → IsTurnover went came (content_in [] (data_at from (table_of t).versions))
    (content_in [] (data_at to (table_of t).versions))
    → IsTurn (bag_at objects from id) (bag_at objects to id) (parts_bag came) (parts_bag went)
turn_alone objects id from to t went came there turnover =
    let old : List Partition = content_in [] (data_at from (table_of t).versions) in
    let new : List Partition = content_in [] (data_at to (table_of t).versions) in
    let stood : parts_bag old ≡ bag_at objects from id = bag_then t from
    ∙ sym (ap (λ (found : Option _). option_map_or (λ u. bag_of (values (rows_at u from))) found no_rows) there) in
    let stands : parts_bag new ≡ bag_at objects to id = bag_then t to
    ∙ sym (ap (λ (found : Option _). option_map_or (λ u. bag_of (values (rows_at u to))) found no_rows) there) in
    subst (λ (b : Bag). IsTurn b (bag_at objects to id) (parts_bag came) (parts_bag went)) stood
    (subst (λ (b : Bag). IsTurn (parts_bag old) b (parts_bag came) (parts_bag went)) stands
    (turn_of_lists went came old new turnover))

no_turn : IsTurn no_rows no_rows no_rows no_rows
no_turn = record { stays = no_rows; was = sym (no_rows-plus no_rows); is = sym (no_rows-plus no_rows) }

pub turn_none : (objects : List Object) (id from to : ℕ) (came went : Bag) → table_at objects id ≡ None
    → came ≡ no_rows → went ≡ no_rows → IsTurn (bag_at objects from id) (bag_at objects to id) came went
turn_none objects id from to came went none no_came no_went =
    let stood : bag_at objects from id ≡ no_rows =
    ap (λ (found : Option _). option_map_or (λ u. bag_of (values (rows_at u from))) found no_rows) none in
    let stands : bag_at objects to id ≡ no_rows =
    ap (λ (found : Option _). option_map_or (λ u. bag_of (values (rows_at u to))) found no_rows) none in
    subst (λ (b : Bag). IsTurn b (bag_at objects to id) came went) (sym stood)
    (subst (λ (b : Bag). IsTurn no_rows b came went) (sym stands)
    (subst (λ (b : Bag). IsTurn no_rows no_rows b went) (sym no_came)
    (subst (λ (b : Bag). IsTurn no_rows no_rows no_rows b) (sym no_went) no_turn)))

-- ---- sources

module _ (objects : List Object) (from to : ℕ) where
  turns_next : (ids : List ℕ) (came went : List Bag) (id : ℕ) (c w : Bag) → AllTurn objects from to ids came went
      → IsTurn (bag_at objects from id) (bag_at objects to id) c w
      → AllTurn objects from to (ids ++ id ∷ []) (came ++ c ∷ []) (went ++ w ∷ [])
  turns_next [] [] [] id c w turns turn = (turn, tt)
  turns_next (x ∷ ids) (y ∷ came) (z ∷ went) id c w turns turn =
      (turns.0, turns_next ids came went id c w turns.1 turn)
  turns_next [] [] (z ∷ went) id c w turns turn = absurd turns
  turns_next [] (y ∷ came) went id c w turns turn = absurd turns
  turns_next (x ∷ ids) [] went id c w turns turn = absurd turns
  turns_next (x ∷ ids) (y ∷ came) [] id c w turns turn = absurd turns

  turns_more : (ids : List ℕ) (i : ℕ) (came went : List Bag) (c w : Bag) → i < length ids
      → AllTurn objects from to (take i ids) came went
      → IsTurn (bag_at objects from (get_or ids i 0)) (bag_at objects to (get_or ids i 0)) c w
      → AllTurn objects from to (take (i + 1) ids) (came ++ c ∷ []) (went ++ w ∷ [])
  turns_more ids i came went c w within turns turn =
      subst (λ (xs : List ℕ). AllTurn objects from to xs (came ++ c ∷ []) (went ++ w ∷ []))
      (sym (take_more ids i 0 within)) (turns_next (take i ids) came went (get_or ids i 0) c w turns turn)

  pub turns_pushed : (ids : List ℕ) (i : ℕ) (came came' went went' : List SourceHeld) (c w : SourceHeld)
      → i < length ids → came' ≡ came ++ c ∷ [] → went' ≡ went ++ w ∷ []
      → AllTurn objects from to (take i ids) (bags_held came) (bags_held went)
      → IsTurn (bag_at objects from (get_or ids i 0)) (bag_at objects to (get_or ids i 0)) (bag_held c) (bag_held w)
      → AllTurn objects from to (take (i + 1) ids) (bags_held came') (bags_held went')
  turns_pushed ids i came came' went went' c w within more_came more_went turns turn =
      subst (λ (bs : List Bag). AllTurn objects from to (take (i + 1) ids) bs (bags_held went'))
      (sym (ap bags_held more_came ∙ map-append bag_held came (c ∷ [])))
      (subst (AllTurn objects from to (take (i + 1) ids) (bags_held came ++ bag_held c ∷ []))
      (sym (ap bags_held more_went ∙ map-append bag_held went (w ∷ [])))
      (turns_more ids i (bags_held came) (bags_held went) (bag_held c) (bag_held w) within turns turn))

  turns_at : (ids : List ℕ) (came went : List Bag) → AllTurn objects from to ids came went → AreTurns (record {
    old = instance_at objects from ids;
    comes = came;
    goes = went;
  }) (instance_at objects to ids)
  turns_at [] [] [] turns place = no_turn
  turns_at (id ∷ ids) (c ∷ came) (w ∷ went) turns zero = turns.0
  turns_at (id ∷ ids) (c ∷ came) (w ∷ went) turns (suc place) = turns_at ids came went turns.1 place
  turns_at [] [] (w ∷ went) turns place = absurd turns
  turns_at [] (c ∷ came) went turns place = absurd turns
  turns_at (id ∷ ids) [] went turns place = absurd turns
  turns_at (id ∷ ids) (c ∷ came) [] turns place = absurd turns

  pub turns_given : (ids : List ℕ) (came went : Instance) (all_came all_went : List SourceHeld)
      → came ≡ bags_held all_came → went ≡ bags_held all_went
      → AllTurn objects from to ids (bags_held all_came) (bags_held all_went) → AreTurns (record {
        old = instance_at objects from ids;
        comes = came;
        goes = went;
      }) (instance_at objects to ids)
  turns_given ids came went all_came all_went come go turns =
      let now : Instance = instance_at objects to ids in
      let old : Instance = instance_at objects from ids in
      subst (λ (e : Instance). AreTurns (record { old = old; comes = e; goes = went }) now) (sym come)
      (subst (λ (e : Instance). AreTurns (record { old = old; comes = bags_held all_came; goes = e }) now) (sym go)
      (turns_at ids (bags_held all_came) (bags_held all_went) turns))
