-- Trees of what is staged, by the ids of tables, and the finite maps that they stand for.
--     held, is_held    both have the same at each id
--     pointed          what a reference to it stands for
--     with_one         a tree with one id written, and the map with it
--     with_same        a tree with what is staged for one id written again
--     held_entries     the entries of both
--     touched_whole    those that were touched
--     held_anew, held_again, staged_is     later edits of a table
use Rattle.std.proofs.Common.{◌≡◌, ℕ, Bool, true, false, cond, List, [], ◌∷◌, ◌++◌, map, append-nil}
use Rattle.std.proofs.Common.{Option, Some, None, option_map, is_some, refl, sym, ap, subst, ◌∙◌}
use Rattle.std.specs.Prelude.{option_copied, nat_lt, Result, Ok, Err, OnErr, IsSome}
use denote.Ref.{Bor}
use Rattle.std.specs.Ordering.{is_eq, nat_cmp}
use Rattle.std.specs.BTreeMap.{is_at}
use Rattle.std.specs.List.{filter}
use Rattle.std.specs.Map.{lookup, set_value, keys_of}
use Rattle.std.specs.List.Sorted.{IsStrictlySortedBy}
use Rattle.std.specs.Cmp.{nat_cmp_total}
use Rattle.std.specs.FinMap.{FinMap, get, insert, entries, from_entries, nat_cmp-IsAntisymmetric}
use Rattle.wh_meaning.proofs.KeyMaps.{gotten, map_after, entries_in_order}
use Rattle.wh_effect.specs.Effect.{Effect}
use Rattle.wh_state.specs.Edits.{Edits}
use Rattle.wh_machine.specs.Changes.{edits_of}
use Rattle.wh_machine.specs.Changes.{counted}
use Rattle.wh_machine.specs.Transaction as machine
use Rattle.wh_txn.specs.declared.transaction.Staged.{Staged}
use Rattle.wh_txn.specs.View.{staged_of, entry_of, tables_of, amended, with_edits, with_reads}

through : (b : Bool) (s : Staged) (found : Option Staged)
    → option_map staged_of (cond b (Some s) found) ≡ cond b (Some (staged_of s)) (option_map staged_of found)
through true s found = refl
through false s found = refl

looked_up : (test : ℕ → Bool) (es : List (ℕ × Staged))
    → lookup test (map entry_of es) ≡ option_map staged_of (lookup test es)
looked_up test [] = refl
looked_up test (e ∷ es) =
    ap (cond (test e.0) (Some (staged_of e.1))) (looked_up test es) ∙ sym (through (test e.0) e.1 (lookup test es))

pub held : (es : List (ℕ × Staged)) (id : ℕ)
    → get (tables_of es) id ≡ option_map staged_of (lookup (is_at (nat_cmp id)) es)
held es id = gotten nat_cmp_total (map entry_of es) id ∙ looked_up (is_at (nat_cmp id)) es

pub is_held : (es : List (ℕ × Staged)) (id : ℕ)
    → is_some (lookup (is_at (nat_cmp id)) es) ≡ is_some (get (tables_of es) id)
is_held es id = sym (is_mapped (lookup (is_at (nat_cmp id)) es)) ∙ ap is_some (sym (held es id))
  where
    is_mapped : (found : Option Staged) → is_some (option_map staged_of found) ≡ is_some found
    is_mapped None = refl
    is_mapped (Some s) = refl

pub pointed : (found : Option (Bor Staged))
    → option_map (λ s. staged_of s.now) found ≡ option_map staged_of (option_copied found)
pointed None = refl
pointed (Some s) = refl

pub some_there : {X : Type 0} (found : Option X) (x : X) → found ≡ Some x → IsSome found
some_there None x is = absurd cc
some_there (Some y) x is = refl

pub on_err : {X E P : Type 0} (r : Result X E) → P → OnErr r P
on_err (Ok x) p = tt
on_err (Err e) p = p

pub with_one : (old new : List (ℕ × Staged)) (id : ℕ) (s : Staged)
    → ((q : ℕ) → lookup (is_at (nat_cmp q)) new ≡ cond (is_eq (nat_cmp id q)) (Some s) (lookup (is_at (nat_cmp q)) old))
    → tables_of new ≡ insert (tables_of old) id (staged_of s)
with_one old new id s has = map_after nat_cmp_total nat_cmp-IsAntisymmetric (map entry_of old) (map entry_of new)
    id (staged_of s) (λ q.
    looked_up (is_at (nat_cmp q)) new
    ∙ ap (option_map staged_of) (has q)
    ∙ through (is_eq (nat_cmp id q)) s (lookup (is_at (nat_cmp q)) old)
    ∙ ap (cond (is_eq (nat_cmp id q)) (Some (staged_of s))) (sym (looked_up (is_at (nat_cmp q)) old)))

same_here : (b : Bool) (e : ℕ × Staged) (es others : List (ℕ × Staged)) (found : Option Staged) (old new : Staged)
    → cond b (Some e.1) found ≡ Some old → staged_of new ≡ staged_of old
    → (found ≡ Some old → map entry_of others ≡ map entry_of es)
    → map entry_of (cond b ((e.0, new) ∷ es) (e ∷ others)) ≡ map entry_of (e ∷ es)
same_here true e es others found old new there same rest =
    let here : e.1 ≡ old = cc in
    ap (λ s. (e.0, s) ∷ map entry_of es) (same ∙ ap staged_of (sym here))
same_here false e es others found old new there same rest = ap (entry_of e ∷◌) (rest there)

same_value : (test : ℕ → Bool) (es : List (ℕ × Staged)) (old new : Staged) → lookup test es ≡ Some old
    → staged_of new ≡ staged_of old → map entry_of (set_value test es new) ≡ map entry_of es
same_value test [] old new there same = refl
same_value test (e ∷ es) old new there same =
    same_here (test e.0) e es (set_value test es new) (lookup test es) old new there same (λ others.
    same_value test es old new others same)

pub with_same : (old new : List (ℕ × Staged)) (id : ℕ) (s t : Staged) → lookup (is_at (nat_cmp id)) old ≡ Some s
    → new ≡ set_value (is_at (nat_cmp id)) old t → staged_of t ≡ staged_of s → tables_of new ≡ tables_of old
with_same old new id s t there is same =
    ap tables_of is ∙ ap (λ es. from_entries es) (same_value (is_at (nat_cmp id)) old s t there same)

keys_same : (es : List (ℕ × Staged)) → keys_of (map entry_of es) ≡ keys_of es
keys_same [] = refl
keys_same (e ∷ es) = ap (e.0 ∷◌) (keys_same es)

pub held_entries : (es : List (ℕ × Staged)) → IsStrictlySortedBy nat_cmp (keys_of es)
    → entries (tables_of es) ≡ map entry_of es
held_entries es sorted =
    entries_in_order nat_cmp_total (map entry_of es) (subst (IsStrictlySortedBy nat_cmp) (sym (keys_same es)) sorted)

-- once none of the entries is left, those that were found are all that were touched
pub touched_whole : (es left : List (ℕ × Staged)) (found : List (ℕ × machine.Staged))
    → IsStrictlySortedBy nat_cmp (keys_of es) → left ≡ []
    → found ++ filter (λ entry. entry.1.is_touched) (map entry_of left)
    ≡ filter (λ entry. entry.1.is_touched) (map entry_of es)
    → found ≡ filter (λ entry. entry.1.is_touched) (entries (tables_of es))
touched_whole es left found sorted none so_far =
    sym (append-nil found)
    ∙ ap (λ rest. found ++ filter (λ entry. entry.1.is_touched) (map entry_of rest)) (sym none)
    ∙ so_far
    ∙ ap (filter (λ entry. entry.1.is_touched)) (sym (held_entries es sorted))

-- ---- later edits of a table

-- it is not held yet
pub held_anew : (t : machine.Transaction) (old new : List (ℕ × Staged)) (id next_row : ℕ) (later : Edits)
    (touches : Bool) (first s : Staged) → t.tables ≡ tables_of old → get t.tables id ≡ None
    → staged_of first ≡ machine.staged_in None → staged_of s ≡ amended next_row later touches (staged_of first)
    → ((q : ℕ) → lookup (is_at (nat_cmp q)) new ≡ cond (is_eq (nat_cmp id q)) (Some s) (lookup (is_at (nat_cmp q)) old))
    → record t { tables = tables_of new } ≡ with_edits next_row later touches id t
held_anew t old new id next_row later touches first s is none starts ends has =
    let staged : staged_of s ≡ amended next_row later touches (machine.staged_in (get t.tables id)) =
    ends ∙ ap (amended next_row later touches) (starts ∙ ap machine.staged_in (sym none)) in
    ap (λ (m : FinMap nat_cmp machine.Staged). record t { tables = m })
    (with_one old new id s has ∙ (λ i. insert (sym is i) id (staged i)))

-- it is held
pub held_again : (t : machine.Transaction) (old new : List (ℕ × Staged)) (id next_row : ℕ) (later : Edits)
    (touches : Bool) (before s : Staged) → t.tables ≡ tables_of old → lookup (is_at (nat_cmp id)) old ≡ Some before
    → staged_of s ≡ amended next_row later touches (staged_of before)
    → ((q : ℕ) → lookup (is_at (nat_cmp q)) new ≡ cond (is_eq (nat_cmp id q)) (Some s) (lookup (is_at (nat_cmp q)) old))
    → record t { tables = tables_of new } ≡ with_edits next_row later touches id t
held_again t old new id next_row later touches before s is there ends has =
    let found : get t.tables id ≡ Some (staged_of before) =
    ap (λ m. get m id) is ∙ held old id ∙ ap (option_map staged_of) there in
    let staged : staged_of s ≡ amended next_row later touches (machine.staged_in (get t.tables id)) =
    ends ∙ ap (λ o. amended next_row later touches (machine.staged_in o)) (sym found) in
    ap (λ (m : FinMap nat_cmp machine.Staged). record t { tables = m })
    (with_one old new id s has ∙ (λ i. insert (sym is i) id (staged i)))

pub staged_is : (t : machine.Transaction) (id : ℕ) (streams : List ℕ) (next_row : ℕ) (later : Edits) (touches : Bool)
    (e : Effect) → later ≡ edits_of e → touches ≡ nat_lt 0 (counted e)
    → with_reads streams (with_edits next_row later touches id t) ≡ machine.staged t id streams next_row e
unfolding machine.staged
staged_is t id streams next_row later touches e is counts =
    (λ i. with_reads streams (with_edits next_row (is i) (counts i) id t))
