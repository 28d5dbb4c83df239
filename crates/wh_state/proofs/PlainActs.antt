-- Commits that edit base tables by rising ids, and then do what leaves rows as they are.
--     ArePlain        edits by rising ids, and then others
--     plain_keep      they keep a sound state sound
use Rattle.std.proofs.Common.{◌≡◌, ℕ, suc, ◌<◌, ◌≤◌, ◌⊎◌, inl, inr, List, [], ◌∷◌, Option, Some, None}
use Rattle.std.proofs.Common.{option_map, refl, sym, ap, subst, ◌∙◌, arith}
use Rattle.std.specs.List.{AllByRecursion}
use Rattle.std.specs.Option.{IfSome, option_and_then}
use Rattle.wh_state.proofs.StillActs.{IsStill}
use Rattle.wh_state.specs.State.{Kind, TableKind, StreamKind, TaskKind, DynamicKind, Object, State, at_id, put_at}
use Rattle.wh_state.specs.State.{changed_at, table_in, dynamic_in}
use Rattle.wh_state.specs.Objects.{as_dynamic, as_table, table_at, dynamic_at}
use Rattle.wh_state.specs.Edits.{Edits}
use Rattle.wh_state.specs.Act.{Act, EditsRows, edited_kind, edited_object, acted}
use Rattle.wh_state.specs.Sound.{IsTimely, IsTimelyFor, IsSoundKind, Sound}
use Rattle.wh_state.proofs.AllLaws.{all_map}
use Rattle.wh_state.proofs.IdLaws.{at_other}
use Rattle.wh_state.proofs.FoundLaws.{at_same, same_or_not}
use Rattle.wh_state.proofs.IdLaws.{at_spared}
use Rattle.wh_state.proofs.SoundObjects.{IsKept, AllBefore, moments_within}
use Rattle.wh_state.proofs.SoundTables.{IsFresh}
use Rattle.wh_state.proofs.SoundLaws.{AreKeeping, no_act, still_act, edit_act, kept_later}

-- over the objects that stood before the commit
pub data ArePlain (stamp : ℕ) (start : List Object) : ℕ → List Act → Type 0 where
  no_more_edit : {least : ℕ} {acts : List Act} → AllByRecursion (IsStill stamp) acts → ArePlain stamp start least acts
  plain_edit : {least id : ℕ} {e : Edits} {acts : List Act} → least ≤ id → dynamic_at start id ≡ None
      → ArePlain stamp start (suc id) acts → ArePlain stamp start least (EditsRows id e ∷ acts)

still_keep : (stamp : ℕ) (objects : List Object) (acts : List Act) → AllByRecursion (IsStill stamp) acts
    → AreKeeping stamp objects acts
still_keep stamp objects [] still = no_act
still_keep stamp objects (act ∷ acts) still =
    still_act still.0 (still_keep stamp (acted stamp objects act) acts still.1)

-- a version of a base table leaves the moments of dynamic tables
edited_before : (stamp moment before id : ℕ) (e : Edits) (objects : List Object) → dynamic_at objects id ≡ None
    → AllBefore before objects → AllBefore before (changed_at objects id (edited_object stamp moment e))
edited_before stamp moment before id e objects base within other d is = by_id (same_or_not other id)
  where
    f : Object → Object
    f = edited_object stamp moment e

    by_kind : (k : Kind) → dynamic_in k ≡ None → dynamic_in (edited_kind stamp moment e k) ≡ Some d → ⊥
    by_kind (TableKind t) none is = cc
    by_kind (StreamKind s) none is = cc
    by_kind (TaskKind t) none is = cc
    by_kind (DynamicKind d t) none is = cc

    here : (found : Option Object) → at_id objects id ≡ found → dynamic_at (changed_at objects id f) id ≡ Some d → ⊥
    here None none is =
        let still : at_id (changed_at objects id f) id ≡ None =
        ap (λ (found : Option Object). at_id (put_at objects id (option_map f found)) id) none ∙ none in
        cc
    here (Some o) there is =
        by_kind o.kind (ap (option_and_then as_dynamic) (sym there) ∙ base)
        (ap (option_and_then as_dynamic) (sym (at_same f objects id o there)) ∙ is)

    by_id : (other ≡ id) ⊎ (other ≡ id → ⊥) → d.state.moment < before
    by_id (inl same) = absurd (here (at_id objects id) refl
        (ap (dynamic_at (changed_at objects id f)) (sym same) ∙ is))
    by_id (inr apart) = within other d (ap (option_and_then as_dynamic) (sym (at_spared f objects id other apart)) ∙ is)

-- what stood at an id is as it was before the commit
abbrev IsAsBefore : ℕ → List Object → List Object → Type 0
IsAsBefore least start objects = (id : ℕ) → least ≤ id → at_id objects id ≡ at_id start id

pub fresh_at : (s : State) (stamp : ℕ) → s.committed < stamp → Sound s → (id : ℕ)
    → IfSome (table_at s.objects id) (IsFresh stamp)
fresh_at s stamp later sound id = by_found (at_id s.objects id) refl
  where
    kept : IsKept s.committed s.objects
    kept = kept_later s s.committed (omega arith) sound

    by_kind : (k : Kind) → IsSoundKind s.committed s.objects k → IfSome (table_in k) (IsFresh stamp)
    by_kind (TableKind t) is = all_map (IsTimely s.committed) (λ v. v.stamp < stamp)
        (λ v timely. omega (arith, timely.stamp, later)) t.versions is.timely
    by_kind (StreamKind r) is = tt
    by_kind (TaskKind t) is = tt
    by_kind (DynamicKind d t) is = all_map (IsTimelyFor s.committed d.state.moment) (λ v. v.stamp < stamp)
        (λ v timely. omega (arith, timely.stamp, later)) t.versions is.timely

    by_found : (found : Option Object) → at_id s.objects id ≡ found
        → IfSome (option_and_then as_table found) (IsFresh stamp)
    by_found None none = tt
    by_found (Some o) there = by_kind o.kind (kept.each id o there)

plain_from : (s : State) (stamp : ℕ) → s.committed < stamp → Sound s → (least : ℕ) (objects : List Object)
    (acts : List Act) → ArePlain stamp s.objects least acts → IsAsBefore least s.objects objects
    → AllBefore stamp objects
    → AreKeeping stamp objects acts
plain_from s stamp later sound least objects acts (no_more_edit still) same within = still_keep stamp objects acts still
plain_from s stamp later sound least objects (EditsRows id e ∷ acts) (plain_edit from base rest) same within =
    let here : at_id objects id ≡ at_id s.objects id = same id from in
    let none : dynamic_at objects id ≡ None = ap (option_and_then as_dynamic) here ∙ base in
    edit_act (record {
      base = none;
      fresh = subst (λ (found : Option Object). IfSome (option_and_then as_table found) (IsFresh stamp)) (sym here)
          (fresh_at s stamp later sound id);
      moments = within;
    })
    (plain_from s stamp later sound (suc id) (acted stamp objects (EditsRows id e)) acts rest
    (λ other h. at_other (edited_object stamp stamp e) objects id other (omega (arith, h))
    ∙ same other (omega (arith, from, h)))
    (edited_before stamp stamp stamp id e objects none within))

-- at a stamp past the last commit
pub plain_keep : (s : State) (stamp : ℕ) → s.committed < stamp → Sound s → (acts : List Act)
    → ArePlain stamp s.objects 0 acts
    → AreKeeping stamp s.objects acts
plain_keep s stamp later sound acts plain =
    plain_from s stamp later sound 0 s.objects acts plain (λ id h. refl)
    (λ id d is. omega (
      arith,
      moments_within s.committed s.objects (kept_later s s.committed (omega arith) sound) id d is,
      later,
    ))
