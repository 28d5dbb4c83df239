-- The columns of a text's query have names, and there are some.
--     SourcesFilled     what may be read has columns
--     query_filled      so it is of a query in which no name is found wrong
use Rattle.std.proofs.Common.{◌≡◌, ℕ, ◌+◌, ◌<◌, Bool, true, false, List, [], ◌∷◌, ◌++◌, map, length}
use Rattle.std.proofs.Common.{Option, Some, None, refl, sym, ap, subst, ◌∙◌, arith}
use Rattle.std.specs.Prelude.{not}
use Rattle.std.specs.List.{AllByRecursion}
use Rattle.wh_ast.specs.declared.expr.Expr.{Expr}
use Rattle.wh_ast.specs.declared.query.Item.{Item}
use Rattle.wh_ast.specs.declared.query.FromItem.{FromItem}
use Rattle.wh_ast.specs.declared.query.FromItem.TheVariants as sources
use Rattle.wh_ast.specs.declared.query.Join.{Join}
use Rattle.wh_ast.specs.declared.query.Core.{Core}
use Rattle.wh_ast.specs.declared.query.Query.{Query}
use Rattle.wh_grammar.specs.Token.{Token}
use Rattle.wh_grammar.specs.Query as g
use Rattle.wh_grammar.specs.Query.{IsQuery, AreCores, IsCore, IsSource, AreJoins}
use Rattle.wh_naming.specs.Findings.{Name, Findings, either, name_if}
use Rattle.wh_naming.specs.Scope.{Named, named, is_source, Entry}
use Rattle.wh_naming.specs.Select.{Output, BoundQuery, BoundSource, SourcePart, JoinPart, QueryReading, Joined}
use Rattle.wh_naming.specs.Select.{object_source, named_source, first_entry, with_entry}
use Rattle.wh_naming.specs.Select.{with_joins, from_part, Shown, nothing_shown}
use Rattle.wh_naming.specs.Select.{all_shown, bound_core}
use Rattle.wh_naming.specs.Select.{merged}
use Rattle.wh_naming.specs.Select.{united, more_cores, all_cores, bound_query}
use Rattle.wh_naming.specs.Changes.{source_part}
use Rattle.wh_ddl_naming.proofs.QueryLaws.{join_part, core_reading, query_reads, core_reads, join_reads, named_reads}
use Rattle.wh_ddl_naming.proofs.QueryLaws.{inner_reads}
use Rattle.wh_state.proofs.AllLaws.{all_append}
use Rattle.wh_state.proofs.DynamicFirm.{AreFilled}
use Rattle.wh_machine.proofs.TokensFilled.{TokenFilled, AllFilled}
use Rattle.wh_machine.proofs.BehindLaws.{expr_behind, item_behind, items_behind, source_behind, word_behind}
use Rattle.wh_machine.proofs.PassedLaws.{both_none}
use Rattle.wh_machine.proofs.OutputLaws.{AreNamed, OutputsFilled, columns_filled, EntriesFilled, ItemFilled}
use Rattle.wh_machine.proofs.OutputLaws.{item_filled, all_named}

-- ---- over objects: those that may be read have columns

abbrev pub SourcesFilled : List Named → Type 0
SourcesFilled names = (name : Name) (object : Named) → named names name ≡ Some object → is_source object.kind ≡ true
    → AreFilled object.columns

-- no name is found wrong
abbrev pub AllRight : Findings → Type 0
AllRight f = (f.unknown_object ≡ None) × ((f.wrong_kind ≡ None) × (f.unknown_column ≡ None))

parts_right : (a b c d e f : Option Name) → (either a b ≡ None) × ((either c d ≡ None) × (either e f ≡ None))
    → ((a ≡ None) × ((c ≡ None) × (e ≡ None))) × ((b ≡ None) × ((d ≡ None) × (f ≡ None)))
parts_right a b c d e f right =
    let first = both_none a b right.0 in
    let second = both_none c d right.1.0 in
    let third = both_none e f right.1.1 in
    ((first.0, (second.0, third.0)), (first.1, (second.1, third.1)))

module _ (names : List Named) (good : SourcesFilled names) where
  abbrev IsFilledSource : BoundSource → Type 0
  IsFilledSource s = AllRight s.findings → AreFilled s.columns

  abbrev IsFilledQuery : BoundQuery → Type 0
  IsFilledQuery q = AllRight q.findings → OutputsFilled q.outputs

  abbrev IsFilledJoined : Joined → Type 0
  IsFilledJoined j = AllRight j.findings → EntriesFilled j.entries

  object_filled : (name : Name) (next : ℕ) → IsFilledSource (named_source name names next)
  object_filled name next = by_found (named names name) refl
    where
      readable : (b : Bool) → name_if (not b) name ≡ None → b ≡ true
      readable true none = refl
      readable false none = absurd cc

      by_found : (found : Option Named) → named names name ≡ found → IsFilledSource (object_source name next found)
      by_found None is right = absurd (cc right.0)
      by_found (Some object) is right = good name object is (readable (is_source object.kind) right.1.0)

  first_filled : (part : SourcePart) (joins : List JoinPart) (s : BoundSource) → IsFilledSource s
      → IsFilledJoined (first_entry part joins s)
  first_filled part joins s is right =
      let own = parts_right s.findings.unknown_object _ s.findings.wrong_kind _ s.findings.unknown_column _ right in
      record { some = omega arith; each = (is own.0, tt) }

  entry_filled : (left : Joined) (j : JoinPart) (joins : List JoinPart) (s : BoundSource) → IsFilledJoined left
      → IsFilledSource s → IsFilledJoined (with_entry left j joins s)
  entry_filled left j joins s before is right =
      let parts = parts_right left.findings.unknown_object _ left.findings.wrong_kind _ left.findings.unknown_column
      _ right in
      let both = parts_right (either s.findings.unknown_object _) _ (either s.findings.wrong_kind _) _
      (either s.findings.unknown_column _) _ parts.1 in
      let own = parts_right s.findings.unknown_object _ s.findings.wrong_kind _ s.findings.unknown_column _ both.0 in
      let old : EntriesFilled left.entries = before parts.0 in
      record {
        some = longer left.entries _;
        each = all_append (λ e. AreFilled e.columns) left.entries _ old.each (is own.0, tt);
      }
    where
      longer : (xs : List Entry) (e : Entry) → 0 < length (xs ++ e ∷ [])
      longer [] e = omega arith
      longer (x ∷ xs) e = omega arith

  abbrev IsFilledPart : SourcePart → Type 0
  IsFilledPart p = (next : ℕ) → IsFilledSource (p.reading names next)

  abbrev IsFilledReading : QueryReading → Type 0
  IsFilledReading r = (next : ℕ) → IsFilledQuery (r names next)

  joins_filled : (next : ℕ) (left : Joined) (joins : List JoinPart) → AllByRecursion (λ j. IsFilledPart j.source) joins
      → IsFilledJoined left → IsFilledJoined (with_joins names next left joins)
  joins_filled next left [] parts is = is
  joins_filled next left (j ∷ joins) parts is =
      let s : BoundSource = j.source.reading names (next + length left.sources) in
      joins_filled next (with_entry left j joins s) joins parts.1
      (entry_filled left j joins s is (parts.0 (next + length left.sources)))

  from_filled : (next : ℕ) (part : SourcePart) (joins : List JoinPart) → IsFilledPart part
      → AllByRecursion (λ j. IsFilledPart j.source) joins → IsFilledJoined (from_part names next part joins)
  from_filled next part joins is parts =
      joins_filled next (first_entry part joins (part.reading names next)) joins parts
      (first_filled part joins (part.reading names next) (is next))

  core_filled : (found : List Item) (j : Joined) (filter : Option Expr) (group : List Expr) → 0 < length found
      → AllByRecursion ItemFilled found → IsFilledJoined j → IsFilledQuery (bound_core found j filter group)
  core_filled found j filter group some has is right =
      let shown : Shown = all_shown j.entries nothing_shown found in
      let parts = parts_right shown.findings.unknown_object _ shown.findings.wrong_kind _
      shown.findings.unknown_column _ right in
      let both = parts_right j.findings.unknown_object _ j.findings.wrong_kind _ j.findings.unknown_column _ parts.1 in
      let all = all_named j.entries (is both.0) nothing_shown found has tt parts.0.1.1 in
      record { some = omega (arith, all.1, some); names = all.0 }

  united_filled : (a b : BoundQuery) → IsFilledQuery a → IsFilledQuery (united a b)
  united_filled a b is right =
      let parts = parts_right (either a.findings.unknown_object b.findings.unknown_object) _
      (either a.findings.wrong_kind b.findings.wrong_kind) _
      (either a.findings.unknown_column b.findings.unknown_column) _ right in
      let both = parts_right a.findings.unknown_object b.findings.unknown_object a.findings.wrong_kind
      b.findings.wrong_kind a.findings.unknown_column b.findings.unknown_column parts.0 in
      let own : OutputsFilled a.outputs = is both.0 in
      record { some = some a.outputs b.outputs own.some; names = of_names a.outputs b.outputs own.names }
    where
      some : (os ps : List Output) → 0 < length os → 0 < length (merged os ps)
      some [] ps h = absurd (omega (arith, h))
      some (o ∷ os) [] h = h
      some (o ∷ os) (p ∷ ps) h = omega arith

      of_names : (os ps : List Output) → AreNamed os → AreNamed (merged os ps)
      of_names [] ps h = tt
      of_names (o ∷ os) [] h = h
      of_names (o ∷ os) (p ∷ ps) h = (h.0, of_names os ps h.1)

  more_filled : (next : ℕ) (q : BoundQuery) (cores : List QueryReading) → IsFilledQuery q
      → IsFilledQuery (more_cores names next q cores)
  more_filled next q [] is = is
  more_filled next q (core ∷ cores) is =
      more_filled next (united q (core names (next + length q.sources))) cores
      (united_filled q (core names (next + length q.sources)) is)

  -- ---- of a text

  items_filled : {d : ℕ} {ts us : List Token} (found : List Item) → g.AreItems d ts found us → AllFilled ts
      → (0 < length found) × AllByRecursion ItemFilled found
  items_filled [] are filled = elim are [ ]
  items_filled (item ∷ found) (g.last_item is) filled = (omega arith, (item_filled item is filled, tt))
  items_filled (item ∷ found) (g.more_items is more) filled =
      (omega arith, (item_filled item is filled, (items_filled found more (item_behind TokenFilled is filled).1).1))

  mutual
    pub query_filled : {d : ℕ} {ts us : List Token} (q : Query) → IsQuery d ts q us → AllFilled ts
        → IsFilledReading (bound_query q)
    query_filled q (g.query {cores = cores} few are) filled next =
        subst IsFilledQuery (sym (query_reads cores names next)) (cores_filled cores are filled next)

    cores_filled : {d : ℕ} {ts us : List Token} (cores : List Core) → AreCores d ts cores us → AllFilled ts
        → (next : ℕ) → IsFilledQuery (all_cores names next (map core_reading cores))
    cores_filled (core ∷ cores) (g.last_core is) filled next = one_filled core is filled next
    cores_filled (core ∷ cores) (g.more_cores is more) filled next =
        more_filled next (core_reading core names next) (map core_reading cores) (one_filled core is filled next)

    one_filled : {d : ℕ} {ts us : List Token} (c : Core) → IsCore d ts c us → AllFilled ts
        → IsFilledReading (core_reading c)
    one_filled c (g.core {items = found} {source = from} {joins = joins} {filter = filter} {group = group}
        few are is more where_ grouped) filled next =
        let own = items_filled found are filled.1 in
        let behind = (items_behind TokenFilled are filled.1).1 in
        subst IsFilledQuery (sym (core_reads found from joins filter group names next))
        (core_filled found (from_part names next (source_part from) (map join_part joins)) filter group own.0 own.1
        (from_filled next (source_part from) (map join_part joins) (source_filled from is behind)
        (all_joins_filled joins more (source_behind TokenFilled is behind))))

    source_filled : {d : ℕ} {ts us : List Token} (source : FromItem) → IsSource d ts source us → AllFilled ts
        → IsFilledPart (source_part source)
    source_filled source (g.named {name = name} {alias = alias} is may) filled next =
        subst IsFilledSource (sym (ap (λ (s : FromItem). (source_part s).reading names next)
        (sym (sources.rolls-Named name alias)) ∙ named_reads name alias names next)) (object_filled name next)
    source_filled source (g.subquery {inner = inner} {alias = alias} is as_name) filled next =
        subst IsFilledSource (sym (ap (λ (s : FromItem). (source_part s).reading names next)
        (sym (sources.rolls-Subquery inner alias)) ∙ inner_reads inner alias names next))
        (λ right. columns_filled (bound_query inner names next).outputs (query_filled inner is filled.1 next right))

    all_joins_filled : {d : ℕ} {ts us : List Token} (joins : List Join) → AreJoins d ts joins us → AllFilled ts
        → AllByRecursion (λ j. IsFilledPart j.source) (map join_part joins)
    all_joins_filled joins g.no_joins filled = tt
    all_joins_filled (j ∷ joins) (g.more_joins {source = source} {x = x} words is on more) filled =
        let behind = word_behind TokenFilled words filled in (
          subst IsFilledPart (sym (join_reads source x)) (source_filled source is behind),
          all_joins_filled joins more (expr_behind TokenFilled on (source_behind TokenFilled is behind).1),
        )
