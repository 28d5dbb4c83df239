-- Effects one behind the other.
--     before_assoc, before_none     three effects, and an effect with none behind it
--     one_turn                      the turn of the next row, and then those of the others
--     turned_append                 the turns of rows and then of others
--     partition_joined, partition_lacks     what the next partition's rows come to, and then those of the others
--     partition_done, partition_fails   the rows of the next partition, and then those of the others
--     all_done                      no partition is left
use Rattle.std.specs.Prelude.{◌≡◌, ℕ, ◌+◌, ◌<◌, ◌≤◌, length, drop, List, [], ◌∷◌, ◌++◌, Option}
use Rattle.std.specs.Prelude.{Some, None, option_map, refl}
use Rattle.std.proofs.Common.{get_or, ap, sym, ◌∙◌}
use Rattle.std.proofs.lemmas.List.{append_assoc, append-nil, drop_more, drop_all}
use denote.Ref.{Bor}
use Rattle.wh_frame.specs.Partition.{Partition}
use Rattle.wh_value.specs.Value.{Row}
use Rattle.wh_meaning.specs.Scalar.{of_two}
use Rattle.wh_effect.specs.Effect.{Effect, no_effect, Turn, Stays, Goes, Becomes, with_turn, turned}
use Rattle.wh_dml.specs.Steps.{before, done_by}
use Rattle.wh_dml.specs.View.{targets_of}

pub before_assoc : (a b c : Effect) → before (before a b) c ≡ before a (before b c)
before_assoc a b c =
    rw (
      append_assoc a.removed b.removed c.removed,
      append_assoc a.changed b.changed c.changed,
      append_assoc a.added b.added c.added,
    ) refl

pub before_none : (a : Effect) → before a no_effect ≡ a
before_none a = rw (append-nil a.removed, append-nil a.changed, append-nil a.added) refl

pub turn_done : (kept : ℕ × Row) (turn : Turn) (e : Effect)
    → with_turn kept (Some turn) (Some e) ≡ Some (before (done_by kept.0 turn) e)
turn_done kept Stays e = refl
turn_done kept Goes e = refl
turn_done kept (Becomes row) e = refl

-- what is done so far, with one turn, and the rest
pub one_turn : (kept : ℕ × Row) (turn : Option Turn) (rest : Option Effect) (old new : Effect)
    → option_map (λ more. before old more) (option_map (done_by kept.0) turn) ≡ Some new
    → option_map (before old) (with_turn kept turn rest) ≡ option_map (before new) rest
one_turn kept None rest old new is = absurd cc
one_turn kept (Some turn) None old new is = refl
one_turn kept (Some turn) (Some e) old new is =
    let same : before old (done_by kept.0 turn) ≡ new = cc in
    ap (option_map (before old)) (turn_done kept turn e)
    ∙ ap Some (sym (before_assoc old (done_by kept.0 turn) e))
    ∙ ap (λ done. Some (before done e)) same

abbrev pub both : Option Effect → Option Effect → Option Effect
both some others = of_two (λ a b. Some (before a b)) some others

row_both : (kept : ℕ × Row) (turn : Option Turn) (some others : Option Effect)
    → with_turn kept turn (both some others) ≡ both (with_turn kept turn some) others
row_both kept None some others = refl
row_both kept (Some turn) None others = refl
row_both kept (Some Stays) (Some a) None = refl
row_both kept (Some Goes) (Some a) None = refl
row_both kept (Some (Becomes row)) (Some a) None = refl
row_both kept (Some Stays) (Some a) (Some b) = refl
row_both kept (Some Goes) (Some a) (Some b) = refl
row_both kept (Some (Becomes row)) (Some a) (Some b) = refl

none_both : (others : Option Effect) → others ≡ both (Some no_effect) others
none_both None = refl
none_both (Some b) = refl

pub turned_append : (turn : Row → Option Turn) (some others : List (ℕ × Row))
    → turned turn (some ++ others) ≡ both (turned turn some) (turned turn others)
turned_append turn [] others = none_both (turned turn others)
turned_append turn (kept ∷ rest) others =
    ap (with_turn kept (turn kept.1)) (turned_append turn rest others)
    ∙ row_both kept (turn kept.1) (turned turn rest) (turned turn others)

-- the rows of the next partition, and those of the others
pub next_partition : (target : List (Bor Partition)) (i : ℕ) (p : Bor Partition) (rows : List (ℕ × Row))
    → i < length target → p ≡ get_or target i p → rows ≡ p.now.rows
    → targets_of (drop i target) ≡ rows ++ targets_of (drop (i + 1) target)
next_partition target i p rows within is same =
    ap targets_of (drop_more target i p within ∙ ap (λ q. q ∷ drop (i + 1) target) (sym is))
    ∙ ap (λ r. r ++ targets_of (drop (i + 1) target)) (sym same)

-- what rows come to one behind the other, where that of some and that of others are joined
module _ {A : Type 0} (join : A → A → A) (assoc : (a b c : A) → join (join a b) c ≡ join a (join b c))
    (of_rows : List (ℕ × Row) → Option A)
    (appends : (some others : List (ℕ × Row))
    → of_rows (some ++ others) ≡ of_two (λ a b. Some (join a b)) (of_rows some) (of_rows others))
    (target : List (Bor Partition)) (i : ℕ) (p : Bor Partition) (rows : List (ℕ × Row))
    (within : i < length target) (is : p ≡ get_or target i p) (same : rows ≡ p.now.rows) where
  joined : (some others : Option A) (old new : A) → option_map (join old) some ≡ Some new
      → option_map (join old) (of_two (λ a b. Some (join a b)) some others) ≡ option_map (join new) others
  joined None others old new done = absurd cc
  joined (Some a) None old new done = refl
  joined (Some a) (Some b) old new done =
      let here : join old a ≡ new = cc in
      ap Some (sym (assoc old a b)) ∙ ap (λ so_far. Some (join so_far b)) here

  next_rows : of_rows (targets_of (drop i target))
      ≡ of_two (λ a b. Some (join a b)) (of_rows rows) (of_rows (targets_of (drop (i + 1) target)))
  next_rows =
      ap of_rows (next_partition target i p rows within is same) ∙ appends rows (targets_of (drop (i + 1) target))

  -- what there is so far, with that of the next partition's rows, and the rest
  pub partition_joined : (old new : A) → option_map (join old) (of_rows rows) ≡ Some new
      → option_map (join old) (of_rows (targets_of (drop i target)))
      ≡ option_map (join new) (of_rows (targets_of (drop (i + 1) target)))
  partition_joined old new done =
      ap (option_map (join old)) next_rows
      ∙ joined (of_rows rows) (of_rows (targets_of (drop (i + 1) target))) old new done

  lacks : (some others : Option A) → some ≡ None → of_two (λ a b. Some (join a b)) some others ≡ None
  lacks None others none = refl
  lacks (Some a) others none = absurd cc

  pub partition_lacks : of_rows rows ≡ None → of_rows (targets_of (drop i target)) ≡ None
  partition_lacks none = next_rows ∙ lacks (of_rows rows) (of_rows (targets_of (drop (i + 1) target))) none

-- what is done so far, with the turns of the next partition's rows, and the rest
pub partition_done : (turn : Row → Option Turn) (target : List (Bor Partition)) (i : ℕ) (p : Bor Partition)
    (rows : List (ℕ × Row)) (old new : Effect)
    → i < length target → p ≡ get_or target i p → rows ≡ p.now.rows
    → option_map (λ more. before old more) (turned turn rows) ≡ Some new
    → option_map (before old) (turned turn (targets_of (drop i target)))
    ≡ option_map (before new) (turned turn (targets_of (drop (i + 1) target)))
partition_done turn target i p rows old new within is same done =
    partition_joined before before_assoc (turned turn) (turned_append turn) target i p rows within is same old new done

-- behind the last partition nothing is left to do
pub all_done : (turn : Row → Option Turn) (target : List (Bor Partition)) (i : ℕ) (e : Effect) → length target ≤ i
    → option_map (before e) (turned turn (targets_of (drop i target))) ≡ Some e
all_done turn target i e past =
    ap (λ ts. option_map (before e) (turned turn (targets_of ts))) (drop_all i target past) ∙ ap Some (before_none e)

-- where a row of the next partition has no turn, there is no effect
pub partition_fails : (turn : Row → Option Turn) (target : List (Bor Partition)) (i : ℕ) (p : Bor Partition)
    (rows : List (ℕ × Row))
    → i < length target → p ≡ get_or target i p → rows ≡ p.now.rows → turned turn rows ≡ None
    → turned turn (targets_of (drop i target)) ≡ None
partition_fails turn target i p rows within is same none =
    partition_lacks before before_assoc (turned turn) (turned_append turn) target i p rows within is same none
