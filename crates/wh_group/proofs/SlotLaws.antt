-- Slots and the groups in them.
--     get-kept, found_..       what stands at a key, by what its slot holds
--     kept-none                no slot, no group
--     kept_after, kept-insert, kept-absent     the groups behind a slot that was written, and behind none
--     put-replaced, put-inserted, put-absent      a call taken back
--     put_slots-push           of several calls the last is taken back first
--     settled_gone, settled_there, kept-settled     a slot without a group goes, and no group with it
--     kept-made                the groups of slots made at once
--     set_slots                those of entries, each with a group
--     none_copied, some_copied      what a look finds
use Rattle.std.specs.Prelude.{◌≡◌, ◌≢◌, ℕ, zero, suc, Bool, true, false, cond, List, [], ◌∷◌, ◌++◌, Option, Some, None}
use Rattle.std.specs.Prelude.{is_some, if◌then◌else◌, map}
use Rattle.std.proofs.Common.{refl, sym, ap, ◌∙◌, Bor}
use Rattle.std.proofs.lemmas.Bool.{and_parts}
use Rattle.std.specs.Option.{option_copied}
use Rattle.std.specs.Ordering.{eq_by_cmp}
use Rattle.std.specs.Cmp.{eq_by_cmp_equiv}
use Rattle.std.specs.List.{list_all}
use Rattle.std.specs.Map.{update, update_all}
use Rattle.std.specs.FinMap.{FinMap, empty, get, contains_key, insert, remove, same_map}
use Rattle.std.specs.FinMap.{get-empty, get-insert, get-remove, get-retain_keys}
use Rattle.wh_value.specs.Value.{Row, row_cmp}
use Rattle.wh_value.specs.Order.{row_total, row-IsAntisymmetric}
use Rattle.wh_meaning.specs.Scalar.{of_one}
use Rattle.wh_meaning.proofs.BagLaws.{tied_rows}
use Rattle.wh_maintenance.specs.Standing.{Standing, left_by, if_left}
use Rattle.wh_maintenance.specs.Entries.{GroupEntry, set_at, set_all}
use Rattle.wh_maintenance.proofs.Keys.{self_tied}
use Rattle.wh_maintenance.proofs.EntryLaws.{get-set_at}
use Rattle.wh_group.specs.Slots.{Slots, standing_in, groups_of_slots, put_slot, put_slots, settle_slot, settle_found}
use Rattle.wh_group.specs.Slots.{settle_slots, has_group, slot_of, setting}

-- ---- the groups

left_there : (n : ℕ) (s : Standing) → cond (is_some (left_by n s)) (Some s) None ≡ left_by n s
left_there zero s = refl
left_there (suc n) s = refl

stands_there : (found : Option Standing)
    → cond (is_some (of_one if_left found)) found None ≡ of_one if_left found
stands_there None = refl
stands_there (Some s) = left_there s.rows s

pub get-kept : (slots : Slots) (q : Row) → get (groups_of_slots slots) q ≡ standing_in slots q
get-kept slots q =
    get-retain_keys slots (λ key. is_some (standing_in slots key)) q
    (λ x t. ap (λ k. is_some (standing_in slots k)) (sym (row-IsAntisymmetric q x t)))
    ∙ stands_there (get slots q)

same_slots : (a b : FinMap row_cmp Standing) → ((q : Row) → get a q ≡ get b q) → a ≡ b
same_slots a b = same_map row_total row-IsAntisymmetric a b

pub kept-none : groups_of_slots empty ≡ empty
kept-none = same_slots _ _ (λ q.
    get-kept empty q ∙ ap (of_one if_left) (get-empty row_cmp q) ∙ sym (get-empty row_cmp q))

standing_of : (t : Bool) (here was : Option Standing)
    → of_one if_left (cond t here was) ≡ cond t (of_one if_left here) (of_one if_left was)
standing_of true here was = refl
standing_of false here was = refl

-- a slot of a key was written, or removed
pub kept_after : (old new : Slots) (key : Row) (here : Option Standing)
    → ((q : Row) → get new q ≡ cond (eq_by_cmp row_cmp q key) here (get old q))
    → groups_of_slots new ≡ set_at (groups_of_slots old) key (of_one if_left here)
kept_after old new key here has = same_slots _ _ (λ q.
    get-kept new q
    ∙ ap (of_one if_left) (has q)
    ∙ standing_of (eq_by_cmp row_cmp q key) here (get old q)
    ∙ ap (cond (eq_by_cmp row_cmp q key) (of_one if_left here)) (sym (get-kept old q))
    ∙ sym (get-set_at (groups_of_slots old) key (of_one if_left here) q))

pub some_left : (s : Standing) → s.rows ≢ 0 → if_left s ≡ Some s
some_left s some = elim (s.rows) as (λ n. n ≢ 0 → left_by n s ≡ Some s) [
  | zero ↦ λ some. absurd (some refl)
  | suc n ↦ λ some. refl
] some

pub none_left : (s : Standing) → s.rows ≡ 0 → if_left s ≡ None
none_left s none = ap (λ n. left_by n s) none

whole : (s : Standing) → is_some (if_left s) ≡ true → if_left s ≡ Some s
whole s some = sym (left_there s.rows s) ∙ ap (λ t. cond t (Some s) None) some

-- what is found in a slot
pub found_standing : (slots : Slots) (key : Row) (s : Standing) → get slots key ≡ Some s → s.rows ≢ 0
    → get (groups_of_slots slots) key ≡ Some s
found_standing slots key s is some = get-kept slots key ∙ ap (of_one if_left) is ∙ some_left s some

pub found_gone : (slots : Slots) (key : Row) (s : Standing) → get slots key ≡ Some s → s.rows ≡ 0
    → get (groups_of_slots slots) key ≡ None
found_gone slots key s is none = get-kept slots key ∙ ap (of_one if_left) is ∙ none_left s none

pub found_none : (slots : Slots) (key : Row) → get slots key ≡ None → get (groups_of_slots slots) key ≡ None
found_none slots key none = get-kept slots key ∙ ap (of_one if_left) none

pub kept-insert : (slots : Slots) (key : Row) (s : Standing)
    → groups_of_slots (insert slots key s) ≡ set_at (groups_of_slots slots) key (if_left s)
kept-insert slots key s = kept_after slots (insert slots key s) key (Some s) (get-insert row_total slots key s)

-- ---- a key at which nothing is written

as_before : (slots : Slots) (key : Row) (here : Option Standing) → get slots key ≡ here → (q : Row)
    → get slots q ≡ cond (eq_by_cmp row_cmp q key) here (get slots q)
as_before slots key here is q = elim (eq_by_cmp row_cmp q key) as (λ t. eq_by_cmp row_cmp q key ≡ t
    → get slots q ≡ cond t here (get slots q)) [
      | true ↦ λ t. ap (get slots) (tied_rows q key t) ∙ is
      | false ↦ λ t. refl
    ] refl

pub kept-absent : (slots : Slots) (key : Row) → get slots key ≡ None
    → groups_of_slots slots ≡ remove (groups_of_slots slots) key
kept-absent slots key none = kept_after slots slots key None (as_before slots key None none)

-- ---- a call taken back

-- of two writes at a key the later one counts
twice : (t : Bool) (a b was : Option Standing) → cond t a (cond t b was) ≡ cond t a was
twice true a b was = refl
twice false a b was = refl

there : (slots : Slots) (key : Row) (s : Standing) → contains_key (insert slots key s) key ≡ true
there slots key s = ap is_some (get-insert row_total slots key s key
    ∙ ap (λ t. cond t (Some s) (get slots key)) (self_tied key))

pub put-replaced : (slots : Slots) (key : Row) (s was : Standing) → get slots key ≡ Some was
    → slots ≡ put_slot (insert slots key s) (record { key = key; group = Some was })
put-replaced slots key s was is =
    same_slots slots (insert (insert slots key s) key was) (λ q.
    as_before slots key (Some was) is q
    ∙ sym (get-insert row_total (insert slots key s) key was q
    ∙ ap (cond (eq_by_cmp row_cmp q key) (Some was)) (get-insert row_total slots key s q)
    ∙ twice (eq_by_cmp row_cmp q key) (Some was) (Some s) (get slots q)))
    ∙ ap (λ t. if t then insert (insert slots key s) key was else insert slots key s) (sym (there slots key s))

put-added : (slots : Slots) (key : Row) (s : Standing) → get slots key ≡ None
    → slots ≡ put_slot (insert slots key s) (record { key = key; group = None })
put-added slots key s none = same_slots slots (remove (insert slots key s) key) (λ q.
    as_before slots key None none q
    ∙ sym (get-remove row_total (insert slots key s) key q
    ∙ ap (cond (eq_by_cmp row_cmp q key) None) (get-insert row_total slots key s q)
    ∙ twice (eq_by_cmp row_cmp q key) None (Some s) (get slots q)))

-- by what stood there
pub put-inserted : (slots : Slots) (key : Row) (s : Standing) (found : Option Standing) → get slots key ≡ found
    → slots ≡ put_slot (insert slots key s) (record { key = key; group = found })
put-inserted slots key s None none = put-added slots key s none
put-inserted slots key s (Some was) is = put-replaced slots key s was is

pub put-absent : (slots : Slots) (key : Row) → get slots key ≡ None
    → slots ≡ put_slot slots (record { key = key; group = None })
put-absent slots key none = same_slots slots (remove slots key) (λ q.
    as_before slots key None none q ∙ sym (get-remove row_total slots key q))

pub put_slots-push : (es : List GroupEntry) (e : GroupEntry) (slots : Slots)
    → put_slots (es ++ e ∷ []) slots ≡ put_slots es (put_slot slots e)
put_slots-push [] e slots = refl
put_slots-push (x ∷ es) e slots = ap (λ s. put_slot s x) (put_slots-push es e slots)

-- ---- groups that were removed

left_is : (n : ℕ) (s x : Standing) → left_by n s ≡ Some x → ◌≡◌ {A = Option Standing} (Some s) (Some x)
left_is zero s x e = cc
left_is (suc n) s x e = e

found_left : (found : Option Standing) (s : Standing) → of_one if_left found ≡ Some s → found ≡ Some s
found_left None s e = cc
found_left (Some x) s e = left_is x.rows x s e

left_again : (n : ℕ) (s : Standing) → s.rows ≡ n → of_one if_left (left_by n s) ≡ left_by n s
left_again zero s e = refl
left_again (suc n) s e = ap (λ n. left_by n s) e

left_twice : (found : Option Standing) → of_one if_left (of_one if_left found) ≡ of_one if_left found
left_twice None = refl
left_twice (Some s) = left_again s.rows s refl

-- no group in a slot: it goes
pub settled_gone : (slots : Slots) (key : Row) → standing_in slots key ≡ None → remove slots key ≡ settle_slot slots key
settled_gone slots key none = ap (set_at slots key) (sym none)

-- a group: the slot stays as it is
pub settled_there : (slots : Slots) (key : Row) (s : Standing) → standing_in slots key ≡ Some s
    → slots ≡ settle_slot slots key
settled_there slots key s is =
    same_slots slots (insert slots key s) (λ q. as_before slots key (Some s) (found_left (get slots key) s is) q
    ∙ sym (get-insert row_total slots key s q))
    ∙ ap (set_at slots key) (sym is)

pub kept-settled : (slots : Slots) (key : Row) → groups_of_slots (settle_slot slots key) ≡ groups_of_slots slots
kept-settled slots key =
    kept_after slots (settle_slot slots key) key (standing_in slots key) (get-set_at slots key (standing_in slots key))
    ∙ same_slots _ _ (λ q.
    get-set_at (groups_of_slots slots) key (of_one if_left (standing_in slots key)) q
    ∙ ap (λ found. cond (eq_by_cmp row_cmp q key) found (get (groups_of_slots slots) q))
    (left_twice (get slots key) ∙ sym (get-kept slots key))
    ∙ sym (as_before (groups_of_slots slots) key (get (groups_of_slots slots) key) refl q))

kept-settled_found : (slots : Slots) (e : GroupEntry) → groups_of_slots (settle_found slots e) ≡ groups_of_slots slots
kept-settled_found slots e = elim (is_some e.group) as (λ t.
    groups_of_slots (if t then settle_slot slots e.key else slots) ≡ groups_of_slots slots) [
      | true ↦ kept-settled slots e.key
      | false ↦ refl
    ]

pub kept-settled_all : (es : List GroupEntry) (slots : Slots)
    → groups_of_slots (settle_slots es slots) ≡ groups_of_slots slots
kept-settled_all [] slots = refl
kept-settled_all (e ∷ es) slots = kept-settled_all es (settle_found slots e) ∙ kept-settled_found slots e

-- ---- slots made at once

-- what each key has once pairs were written, from the first to the last
module _ (slots : Slots) where
  abbrev Writes : (Row → Option Standing) → List (Row × Standing) → Type 0
  Writes before pairs = (q : Row) → get slots q ≡ update_all (eq_by_cmp row_cmp) before pairs q

  -- their groups are those of entries that set the pairs
  kept-written : (pairs : List (Row × Standing)) (before : Row → Option Standing) (old : Slots)
      → ((q : Row) → before q ≡ get old q) → Writes before pairs → list_all has_group (map setting pairs) ≡ true
      → groups_of_slots slots ≡ set_all (map setting pairs) (groups_of_slots old)
  kept-written [] before old is has groups = ap groups_of_slots (same_slots slots old (λ q. has q ∙ is q))
  kept-written (p ∷ pairs) before old is has groups =
      let here = and_parts (has_group (setting p)) (list_all has_group (map setting pairs)) groups in
      kept-written pairs (update (eq_by_cmp row_cmp) before p.0 (Some p.1)) (insert old p.0 p.1) (λ q.
      ap (λ t. cond t (Some p.1) (before q)) ((eq_by_cmp_equiv row_total).symm p.0 q)
      ∙ ap (cond (eq_by_cmp row_cmp q p.0) (Some p.1)) (is q)
      ∙ sym (get-insert row_total old p.0 p.1 q)) has here.1
      ∙ ap (set_all (map setting pairs)) (kept-insert old p.0 p.1
      ∙ ap (set_at (groups_of_slots old) p.0) (whole p.1 here.0))

pub kept-made : (pairs : List (Row × Standing)) (slots : Slots) → Writes slots (λ _. None) pairs
    → list_all has_group (map setting pairs) ≡ true → groups_of_slots slots ≡ set_all (map setting pairs) empty
kept-made pairs slots has groups =
    kept-written slots pairs (λ _. None) empty (λ q. sym (get-empty row_cmp q)) has groups
    ∙ ap (set_all (map setting pairs)) kept-none

-- the slot that an entry fills, where it has a group
set_slot : (e : GroupEntry) → has_group e ≡ true → setting (slot_of e) ≡ e
set_slot e groups = elim e.group as (λ g. is_some (of_one if_left g) ≡ true
    → setting (slot_of (record { key = e.key; group = g })) ≡ record { key = e.key; group = g }) [
      | None ↦ λ t. absurd cc
      | Some s ↦ λ t. refl
    ] groups

pub set_slots : (es : List GroupEntry) → list_all has_group es ≡ true → map setting (map slot_of es) ≡ es
set_slots [] groups = refl
set_slots (e ∷ es) groups =
    let here = and_parts (has_group e) (list_all has_group es) groups in
    ap (λ x. x ∷ map setting (map slot_of es)) (set_slot e here.0) ∙ ap (λ xs. e ∷ xs) (set_slots es here.1)

-- ---- what a look finds

pub none_copied : {A : Type 0} (found : Option (Bor A)) → is_some found ≡ false → option_copied found ≡ None
none_copied None e = refl
none_copied (Some r) e = cc

pub some_copied : {A : Type 0} (found : Option (Bor A)) → is_some found ≡ true
    → (x : A) × (option_copied found ≡ Some x)
some_copied None e = cc
some_copied (Some r) e = (r.now, refl)
