-- What a change of a text comes to fits its target, and the streams that it reads live.
--     changes_fit     of each change of a text, over a machine that was reached
use Rattle.std.proofs.Common.{◌≡◌, ◌⊎◌, inl, inr, ℕ, zero, suc, Bool, true, false, cond, List, [], ◌∷◌}
use Rattle.std.proofs.Common.{Option, Some, None, option_map, refl, sym, ap, subst, ◌∙◌, arith}
use Rattle.std.specs.Prelude.{slice_get, not, unwrap_or}
use Rattle.std.specs.List.{AllByRecursion}
use Rattle.std.specs.Option.{IsSomeAnd, option_map_or}
use Rattle.std.specs.FinMap.{entries}
use Rattle.wh_value.specs.Value.{Row}
use Rattle.wh_value.specs.Column.{Column}
use Rattle.wh_ast.specs.declared.dml.Dml.{Dml}
use Rattle.wh_grammar.specs.Token.{Token}
use Rattle.wh_grammar.specs.Changing.{IsDml}
use Rattle.wh_meaning.specs.Bag.{Bag, no_rows}
use Rattle.wh_meaning.specs.Query.{source_in}
use Rattle.wh_naming.specs.Findings as naming
use Rattle.wh_naming.specs.Findings.{Name}
use Rattle.wh_naming.specs.Scope.{Named, named}
use Rattle.wh_naming.specs.Changes.{Target, target_of, target_at, is_table, BoundChange, Modification, bound_change}
use Rattle.wh_effect.specs.Effect as effects
use Rattle.wh_effect.specs.Effect.{effect}
use Rattle.wh_reply.specs.Reply.{Refusal}
use Rattle.wh_state.specs.State.{TaskKind, DynamicKind}
use Rattle.wh_state.specs.State.{Table, Object, at_id, last_rows}
use Rattle.wh_state.specs.State.{TableKind, StreamKind, table_in, stream_in, columns_in}
use Rattle.wh_state.specs.Objects.{is_stream, is_kind_at, table_at}
use Rattle.wh_state.specs.Stored.{StoredTable, StoredKind, StoredObject, Stored}
use Rattle.wh_state.specs.Stored.{object_meant, kind_meant}
use Rattle.wh_state.proofs.AllLaws.{all_map}
use Rattle.wh_state.proofs.FoundLaws.{FoundAt}
use Rattle.wh_state.proofs.MeaningLaws.{at_id_meant}
use Rattle.wh_machine.specs.Names.{object_kind, names_from, refusal_of, naming_refusal}
use Rattle.wh_machine.specs.Offsets.{streams_among}
use Rattle.wh_machine.specs.Changes.{given, given_on, fails_or, rows_seen}
use Rattle.wh_machine.specs.Outcome.{Machine}
use Rattle.wh_machine.specs.Reading.{objects_seen, instance_read, rows_read}
use Rattle.wh_machine.specs.Statements.{streams_read, change_refusal, bound_changed}
use Rattle.wh_machine.proofs.GotLaws.{entries_hold}
use Rattle.wh_machine.proofs.StandLaws.{IsLiveStream}
use Rattle.wh_machine.proofs.WorksLaws.{IsReached, objects_meant}
use Rattle.wh_machine.proofs.PassedLaws.{passed, no_map, no_name, NothingFails, nothing_fails, object_found}
use Rattle.wh_machine.proofs.NamedLaws.{IsObjectOf}
use Rattle.wh_machine.proofs.StageLaws.{EffectFits, HoldsEffect, ChangedFits}
use Rattle.wh_machine.proofs.BagRows.{AllRows, AllEntries, all_none}
use Rattle.wh_machine.proofs.ValueTypes.{FitsTypes, types_of, row_of_columns}
use Rattle.wh_machine.proofs.SeenRows.{Fit, SeesTable, seen_fits}
use Rattle.wh_machine.proofs.ReadRows.{read_fits}
use Rattle.wh_machine.proofs.BoundLaws.{InstanceFits}
use Rattle.wh_machine.proofs.EffectLaws.{OutcomeFits}
use Rattle.wh_machine.proofs.TargetLaws.{IsGoodChange, change_good}

-- ---- a row of a bag

abbrev IsAmong : Row → List (Row × ℕ) → Type 0
IsAmong row [] = ⊥
IsAmong row (e ∷ es) = (row ≡ e.0) ⊎ IsAmong row es

among_holds : (P : Row → Type 0) (row : Row) (es : List (Row × ℕ)) → AllEntries P es → IsAmong row es → P row
among_holds P row [] h is = absurd is
among_holds P row (e ∷ es) h (inl same) = subst P (sym same) h.0
among_holds P row (e ∷ es) h (inr later) = among_holds P row es h.1 later

all_among : (es : List (Row × ℕ)) → AllEntries (λ row. IsAmong row es) es
all_among [] = tt
all_among (e ∷ es) =
    (inl refl, all_map (λ f. IsAmong f.0 es) (λ f. IsAmong f.0 (e ∷ es)) (λ f is. inr is) es (all_among es))

-- ---- what is read

module _ (s : Stored) (m : Machine) (session : ℕ) (reached : IsReached s m) where
  abbrev names : List Named
  names = names_from 1 m.state.objects

  -- a source that is a stream lives
  abbrev SourceLives : ℕ → Type 0
  SourceLives id = is_kind_at is_stream m.state.objects id ≡ true → FoundAt IsLiveStream s.objects id

  abbrev IsRead : ℕ → Row → Type 0
  IsRead id row = IsAmong row (entries (rows_read m session id))

  none_lives : SourceLives 0
  none_lives is = absurd cc

  nothing_read : (row : Row) → IsRead 0 row → ⊥
  nothing_read row is = among_holds (λ row. ⊥) row (entries no_rows) (all_none (λ row. ⊥)) is

  at_now : (id : ℕ) (o : StoredObject) → at_id s.objects id ≡ Some o → at_id m.state.objects id ≡ Some (object_meant o)
  at_now id o there = ap (λ (objects : List Object). at_id objects id) (objects_meant s m reached)
      ∙ at_id_meant s.objects id ∙ ap (option_map object_meant) there

  named_lives : (name : Name) (object : Named) → named names name ≡ Some object → SourceLives object.id
  named_lives name object is kind_is =
      let o = object_found s m name object reached is in
      let here : is_stream (kind_meant o.object.kind) ≡ true =
      ap (λ (found : Option Object). option_map_or (λ o. is_stream o.kind) found false)
      (sym (at_now object.id o.object o.there)) ∙ kind_is in
      subst (λ (found : Option StoredObject). IsSomeAnd found IsLiveStream) (sym o.there)
      (o.live, by_kind o.object.kind here)
    where
      by_kind : (k : StoredKind) → is_stream (kind_meant k) ≡ true → IsSomeAnd (stream_in k) (λ s. Unit {0})
      by_kind (TableKind t) is = absurd cc
      by_kind (StreamKind s) is = tt
      by_kind (TaskKind t) is = absurd cc
      by_kind (DynamicKind d t) is = absurd cc

  named_fits : (name : Name) (object : Named) → named names name ≡ Some object → (row : Row) → IsRead object.id row
      → FitsTypes (types_of object.columns) row
  named_fits name object is row read =
      let o = object_found s m name object reached is in
      subst (λ (columns : List Column). FitsTypes (types_of columns) row) (sym o.columns)
      (among_holds (FitsTypes (types_of (columns_in o.object.kind))) row (entries (rows_read m session object.id))
      (read_fits s m session object.id o.object reached o.there) read)

  mapped_get : (ids : List ℕ) (k id : ℕ) → slice_get ids k ≡ Some id
      → slice_get (instance_read m session ids) k ≡ Some (rows_read m session id)
  mapped_get [] k id is = absurd cc
  mapped_get (x ∷ ids) zero id is = ap (option_map (rows_read m session)) is
  mapped_get (x ∷ ids) (suc k) id is = mapped_get ids k id is

  instance_fits : (ids : List ℕ)
      → InstanceFits names SourceLives IsRead none_lives nothing_read named_lives named_fits 0 ids
      (instance_read m session ids)
  instance_fits ids k place id at is =
      let same : place ≡ k = omega arith in
      let bag : source_in (instance_read m session ids) place ≡ rows_read m session id =
      ap (λ (n : ℕ). source_in (instance_read m session ids) n) same
      ∙ ap (λ (found : Option Bag). unwrap_or found no_rows) (mapped_get ids k id is) in
      subst (AllRows (IsRead id)) (sym bag) (all_among (entries (rows_read m session id)))

  -- ---- the target

  record IsFound (t : Target) : Type 0 where
    object : StoredObject
    there : at_id s.objects t.id ≡ Some object
    live : object.is_live ≡ true
    table : StoredTable
    kind : object.kind ≡ TableKind table
    columns : t.columns ≡ table.columns

  target_found : (name : Name) → (target_at names name).findings.unknown_object ≡ None
      → (target_at names name).findings.wrong_kind ≡ None → IsFound (target_at names name)
  target_found name known kinds = by_found (named names name) refl known kinds
    where
      by_found : (found : Option Named) → named names name ≡ found →
          (target_of name found).findings.unknown_object ≡ None
          → (target_of name found).findings.wrong_kind ≡ None → IsFound (target_of name found)
      by_found None is known kinds = absurd cc
      by_found (Some object) is known kinds =
          by_kind o.object.kind refl (ap is_table (sym o.kind) ∙ not_false (is_table object.kind)
          (no_name (not (is_table object.kind)) name kinds))
        where
          o : IsObjectOf s.objects name object
          o = object_found s m name object reached is

          not_false : (b : Bool) → not b ≡ false → b ≡ true
          not_false true is = refl
          not_false false is = absurd cc

          by_kind : (k : StoredKind) → o.object.kind ≡ k → is_table (object_kind (kind_meant k)) ≡ true
              → IsFound (target_of name (Some object))
          by_kind (StreamKind stream) kind table = absurd cc
          by_kind (TaskKind task) kind table = absurd cc
          by_kind (DynamicKind d t) kind table = absurd cc
          by_kind (TableKind t) kind table = record {
            object = o.object;
            there = o.there;
            live = o.live;
            table = t;
            kind = kind;
            columns = o.columns ∙ ap columns_in kind;
          }

  target_rows : (id : ℕ) (columns : List Column) (sees : SeesTable m session id columns)
      → AllByRecursion (λ entry. FitsTypes (types_of columns) entry.1) (rows_seen sees.table)
  target_rows id columns sees =
      all_map (λ e. Fit columns e.1) (λ e. FitsTypes (types_of columns) e.1) (λ e fits. row_of_columns columns e.1 fits)
      (rows_seen sees.table) (entries_hold (λ q x. Fit columns x) (last_rows sees.table) sees.rows)

  among_live : (ids : List ℕ) → AllByRecursion SourceLives ids
      → AllByRecursion (FoundAt IsLiveStream s.objects) (streams_among m.state.objects ids)
  among_live [] h = tt
  among_live (id ∷ ids) h = by_test (is_kind_at is_stream m.state.objects id) refl (among_live ids h.1)
    where
      by_test : (b : Bool) → is_kind_at is_stream m.state.objects id ≡ b
          → AllByRecursion (FoundAt IsLiveStream s.objects) (streams_among m.state.objects ids)
          → AllByRecursion (FoundAt IsLiveStream s.objects)
          (cond b (id ∷ streams_among m.state.objects ids) (streams_among m.state.objects ids))
      by_test true is rest = (h.0 is, rest)
      by_test false is rest = rest

  given_fits : (t : Target) (found : IsFound t) (streams : List ℕ) (change : Modification) (o : effects.EffectResult)
      → AllByRecursion (FoundAt IsLiveStream s.objects) streams → OutcomeFits t.columns o
      → ChangedFits s.objects (given t.id streams change o)
  given_fits t found streams change effects.Undefined live fits = tt
  given_fits t found streams change (effects.Ambiguous row) live fits = tt
  given_fits t found streams change (effects.Does e) live fits = (
    subst (λ (o : Option StoredObject). IsSomeAnd o (HoldsEffect e)) (sym found.there)
        (subst (λ (k : StoredKind). HoldsEffect e (record found.object { kind = k })) (sym found.kind)
        (found.live, (subst (λ (columns : List Column). EffectFits columns e) found.columns fits, refl))),
    live,
  )

  -- ---- the change

  -- where no test of it fails
  well_given : (x : Dml) (name : Name)
      → IsGoodChange names SourceLives IsRead none_lives nothing_read named_lives named_fits (target_at names name)
      (bound_change names x)
      → naming.first_failing (bound_change names x).findings ≡ None
      → ChangedFits s.objects (given_on (streams_read m (bound_change names x))
      (instance_read m session (bound_change names x).sources) (bound_change names x)
      (table_at (objects_seen m session) (bound_change names x).target))
  well_given x name good none =
      let b : BoundChange = bound_change names x in
      let t : Target = target_at names name in
      let nothing : NothingFails b.findings = nothing_fails b.findings none in
      let found : IsFound t = target_found name (good.known nothing.unknown_object) (good.kinds nothing.wrong_kind) in
      let sees : SeesTable m session t.id found.table.columns =
      seen_fits s m session t.id found.object found.table reached found.there (ap table_in found.kind) in
      let there : table_at (objects_seen m session) b.target ≡ Some sees.table =
      ap (λ (id : ℕ). table_at (objects_seen m session) id) good.target ∙ sees.there in
      let rows : AllByRecursion (λ entry. FitsTypes (types_of t.columns) entry.1) (rows_seen sees.table) =
      subst (λ (columns : List Column). AllByRecursion (λ entry. FitsTypes (types_of columns) entry.1)
      (rows_seen sees.table))
      (sym found.columns) (target_rows t.id found.table.columns sees) in
      let fits : OutcomeFits t.columns (effect b.change (rows_seen sees.table) (instance_read m session b.sources)) =
      good.effect nothing.is_mistyped (instance_read m session b.sources) (instance_fits b.sources)
      (rows_seen sees.table)
      rows in
      let streams : AllByRecursion (FoundAt IsLiveStream s.objects) (streams_read m b) =
      among_live b.sources good.sources in
      subst (λ (u : Option Table). ChangedFits s.objects
      (given_on (streams_read m b) (instance_read m session b.sources) b u)) (sym there)
      (subst (λ (id : ℕ). ChangedFits s.objects (given id (streams_read m b) b.change
      (effect b.change (rows_seen sees.table) (instance_read m session b.sources)))) (sym good.target)
      (given_fits t found (streams_read m b) b.change
      (effect b.change (rows_seen sees.table) (instance_read m session b.sources)) streams fits))

  pub change_fits : (x : Dml) {d : ℕ} {ts us : List Token} → IsDml d ts x us
      → ChangedFits s.objects (bound_changed m session (bound_change names x))
  change_fits x is = by_refusal (change_refusal m session (bound_change names x)) refl
    where
      good : (name : Name) × IsGoodChange names SourceLives IsRead none_lives nothing_read named_lives named_fits
          (target_at names name) (bound_change names x)
      good = change_good names SourceLives IsRead none_lives nothing_read named_lives named_fits x is

      by_refusal : (found : Option Refusal) → change_refusal m session (bound_change names x) ≡ found
          → ChangedFits s.objects (fails_or found (given_on (streams_read m (bound_change names x))
          (instance_read m session (bound_change names x).sources) (bound_change names x)
          (table_at (objects_seen m session) (bound_change names x).target)))
      by_refusal (Some why) is = tt
      by_refusal None is =
          let names_pass = passed (naming_refusal (bound_change names x).findings
          (bound_change names x).is_wide) _ is in
          let types_pass = passed (option_map refusal_of (naming.first_failing (bound_change names x).findings)) _
          names_pass.0 in
          well_given x good.0 good.1
          (no_map refusal_of (naming.first_failing (bound_change names x).findings) types_pass.0)
