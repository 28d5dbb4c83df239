-- The columns that items give have names.
--     AreNamed, OutputsFilled     of output columns
--     EntriesFilled               of the entries of FROM
--     item_filled                 an item's alias isn't empty
--     all_named                   the columns of items
use Rattle.std.proofs.Common.{◌≡◌, ℕ, suc, ◌+◌, ◌<◌, ◌≤◌, Bool, true, false, cond, List, [], ◌∷◌, ◌++◌, map, length}
use Rattle.std.proofs.Common.{Option, Some, None, refl, sym, ap, subst, ◌∙◌, arith}
use Rattle.std.specs.Prelude.{bytes_eq, codes, decimal}
use Rattle.std.specs.List.{AllByRecursion}
use Rattle.std.proofs.lemmas.Slice.Eq.{bytes_eq-Decides}
use Rattle.wh_value.specs.Column.{Column}
use Rattle.wh_ast.specs.declared.expr.Expr.{Expr, out-Expr, fold-Expr, map-Expr, fold_out-Expr}
use Rattle.wh_ast.specs.declared.expr.Expr.TheOpen.{Expr-F}
use Rattle.wh_ast.specs.declared.query.Item.{Item}
use Rattle.wh_ast.specs.declared.query.Item.TheVariants as items
use Rattle.wh_grammar.specs.Token.{Token}
use Rattle.wh_grammar.specs.Query as g
use Rattle.wh_grammar.specs.Query.{IsItem}
use Rattle.wh_naming.specs.Findings.{Name}
use Rattle.wh_naming.specs.Scope.{named, Entry, Place, places_among, may_be_of, places_of, only}
use Rattle.wh_naming.specs.Scope.{column_at, Span, spans_of, columns_of_entry}
use Rattle.wh_naming.specs.Typing.{Typed, Context, Reading, column_typed, step, typed}
use Rattle.wh_naming.specs.Select.{Output}
use Rattle.wh_naming.specs.Select.{column_of}
use Rattle.wh_naming.specs.Select.{Shown, output_of, with_columns, all_columns}
use Rattle.wh_naming.specs.Select.{with_span, name_in, output_name, item_context, shown_with, all_shown}
use Rattle.wh_state.proofs.AllLaws.{all_append}
use Rattle.wh_state.proofs.DynamicFirm.{AreFilled}
use Rattle.wh_machine.proofs.PassedLaws.{both_none}
use Rattle.wh_machine.proofs.TokensFilled.{TokenFilled, AllFilled, alias_filled}
use Rattle.wh_machine.proofs.BehindLaws.{expr_behind}

-- ---- columns

abbrev pub AreNamed : List Output → Type 0
AreNamed outputs = AllByRecursion (λ o. 0 < length o.name) outputs

pub record OutputsFilled (outputs : List Output) : Type 0 where
  pub some : 0 < length outputs
  pub names : AreNamed outputs

pub columns_filled : (outputs : List Output) → OutputsFilled outputs → AreFilled (map column_of outputs)
columns_filled outputs filled = record { some = some outputs filled.some; names = of_names outputs filled.names }
  where
    some : (os : List Output) → 0 < length os → 0 < length (map column_of os)
    some [] h = h
    some (o ∷ os) h = omega arith

    of_names : (os : List Output) → AreNamed os → AllByRecursion (λ c. 0 < length c.name) (map column_of os)
    of_names [] h = tt
    of_names (o ∷ os) h = (h.0, of_names os h.1)

-- the entries of FROM
pub record EntriesFilled (entries : List Entry) : Type 0 where
  pub some : 0 < length entries
  pub each : AllByRecursion (λ e. AreFilled e.columns) entries

all_filled : (entries : List Entry) → EntriesFilled entries → AreFilled (all_columns entries)
all_filled entries filled = record { some = some entries filled.some filled.each; names = names entries filled.each }
  where
    longer : (xs ys : List Column) → 0 < length xs → 0 < length (xs ++ ys)
    longer [] ys h = absurd (omega (arith, h))
    longer (x ∷ xs) ys h = omega arith

    some : (es : List Entry) → 0 < length es → AllByRecursion (λ e. AreFilled e.columns) es
        → 0 < length (all_columns es)
    some [] h each = absurd (omega (arith, h))
    some (e ∷ es) h each = longer e.columns (all_columns es) each.0.some

    names : (es : List Entry) → AllByRecursion (λ e. AreFilled e.columns) es
        → AllByRecursion (λ c. 0 < length c.name) (all_columns es)
    names [] each = tt
    names (e ∷ es) each =
        all_append (λ c. 0 < length c.name) e.columns (all_columns es) each.0.names (names es each.1)

-- ---- one of several

only_holds : {X : Type 0} (P : X → Type 0) (xs : List X) (x : X) → only xs ≡ Some x → AllByRecursion P xs → P x
only_holds P [] x is all = absurd cc
only_holds P (y ∷ []) x is all = let same : y ≡ x = cc in subst P same all.0
only_holds P (y ∷ z ∷ xs) x is all = absurd cc

spans_filled : (name : Name) (from : ℕ) (entries : List Entry) → AllByRecursion (λ e. AreFilled e.columns) entries
    → AllByRecursion (λ s. AreFilled s.columns) (spans_of name from entries)
spans_filled name from [] each = tt
spans_filled name from (e ∷ es) each =
    by_test (bytes_eq e.name name) (spans_filled name (from + length e.columns) es each.1)
  where
    by_test : (b : Bool) → AllByRecursion (λ s. AreFilled s.columns) (spans_of name (from + length e.columns) es)
        → AllByRecursion (λ s. AreFilled s.columns) (cond b ((record { from = from; columns = e.columns }) ∷ []) []
        ++ spans_of name (from + length e.columns) es)
    by_test true rest = (each.0, rest)
    by_test false rest = rest

span_filled : (name : Name) (entries : List Entry) (s : Span) → EntriesFilled entries
    → columns_of_entry name entries ≡ Some s → AreFilled s.columns
unfolding columns_of_entry
span_filled name entries s filled is =
    only_holds (λ s. AreFilled s.columns) (spans_of name 0 entries) s is (spans_filled name 0 entries filled.each)

-- no column has an empty name
not_empty : (name : Name) → 0 < length name → bytes_eq name [] ≡ false
not_empty name some = by_test (bytes_eq name []) refl
  where
    by_test : (b : Bool) → bytes_eq name [] ≡ b → b ≡ false
    by_test false is = refl
    by_test true is =
        let none : length name ≡ 0 = ap length ((bytes_eq-Decides name []).0 is) in absurd (omega (arith, some, none))

none_among : (from : ℕ) (columns : List Column) → AllByRecursion (λ c. 0 < length c.name) columns
    → places_among [] from columns ≡ []
none_among from [] names = refl
none_among from (c ∷ cs) names =
    let here : bytes_eq c.name [] ≡ false = not_empty c.name names.0 in
    rw here (none_among (suc from) cs names.1)

none_of : (entry : Option Name) (from : ℕ) (entries : List Entry) → AllByRecursion (λ e. AreFilled e.columns) entries
    → places_of entry [] from entries ≡ []
none_of entry from [] each = refl
none_of entry from (e ∷ es) each =
    by_test (may_be_of entry e) (none_of entry (from + length e.columns) es each.1)
  where
    by_test : (b : Bool) → places_of entry [] (from + length e.columns) es ≡ []
        → cond b (places_among [] from e.columns) [] ++ places_of entry [] (from + length e.columns) es ≡ []
    by_test false rest = rest
    by_test true rest =
        ap (λ (ps : List Place). ps ++ places_of entry [] (from + length e.columns) es)
        (none_among from e.columns each.0.names) ∙ rest

column_named : (entry : Option Name) (name : Name) (entries : List Entry) → EntriesFilled entries
    → (column_typed name (column_at entry name entries)).findings.unknown_column ≡ None → 0 < length name
unfolding column_at
column_named entry [] entries filled none =
    let unknown : (column_typed [] (only (places_of entry [] 0 entries))).findings.unknown_column ≡ Some [] =
    ap (λ (ps : List Place). (column_typed [] (only ps)).findings.unknown_column)
    (none_of entry 0 entries filled.each) in
    absurd cc
column_named entry (b ∷ bs) entries filled none = omega arith

-- ---- items

abbrev pub ItemFilled : Item → Type 0
ItemFilled items.Star = Unit {0}
ItemFilled (items.StarOf name) = Unit {0}
ItemFilled (items.Expr e None) = Unit {0}
ItemFilled (items.Expr e (Some alias)) = 0 < length alias

pub item_filled : {d : ℕ} {ts us : List Token} (item : Item) → IsItem d ts item us → AllFilled ts → ItemFilled item
item_filled item g.star filled = tt
item_filled item (g.star_of is) filled = tt
item_filled item (g.shown is g.no_alias) filled = tt
item_filled item (g.shown is (g.an_alias alias)) filled =
    alias_filled _ _ _ alias (expr_behind TokenFilled is filled)

abbrev Unknown : Shown → Option Name
Unknown shown = shown.findings.unknown_column

column_form : (e : Expr) (entry : Option Name) (name : Name) (context : Context) (calls : ℕ)
    → out-Expr e ≡ Expr-F.Column entry name
    → typed e context calls ≡ column_typed name (column_at entry name context.entries)
unfolding step
column_form e entry name context calls is =
    ap (λ (r : Reading). r context calls) (fold_out-Expr Reading step e)
    ∙ ap (λ (f : Expr-F Expr). step (map-Expr Expr Reading (fold-Expr Reading step) f) context calls) is

-- by its position
col_named : (position : ℕ) → 0 < length (codes "COL" ++ decimal position)
col_named position = omega arith

module _ (entries : List Entry) (filled : EntriesFilled entries) where
  name_given : (e : Expr) (calls position : ℕ)
      → (typed e (item_context entries) calls).findings.unknown_column ≡ None
      → 0 < length (name_in (out-Expr e) position)
  name_given e calls position none = by_form (out-Expr e) refl
    where
      by_form : (f : Expr-F Expr) → out-Expr e ≡ f → 0 < length (name_in f position)
      by_form (Expr-F.Column entry name) is =
          column_named entry name entries filled
          (ap (λ (x : Typed). x.findings.unknown_column)
          (sym (column_form e entry name (item_context entries) calls is)) ∙ none)
      by_form (Expr-F.Const v) is = col_named position
      by_form (Expr-F.Neg x) is = col_named position
      by_form (Expr-F.Not x) is = col_named position
      by_form (Expr-F.Binary o x y) is = col_named position
      by_form (Expr-F.IsNull negated x) is = col_named position
      by_form (Expr-F.In negated x ys) is = col_named position
      by_form (Expr-F.Between negated x low high) is = col_named position
      by_form (Expr-F.Sum x) is = col_named position
      by_form Expr-F.CountRows is = col_named position
      by_form (Expr-F.Count x) is = col_named position

  -- more columns behind those that are shown
  record ShowsMore (shown more : Shown) : Type 0 where
    names : AreNamed more.outputs
    longer : length shown.outputs < length more.outputs

  columns_more : (shown : Shown) (from : ℕ) (columns : List Column) → AreNamed shown.outputs → AreFilled columns
      → ShowsMore shown (with_columns shown from columns)
  columns_more shown from columns named are = record {
    names = all_append (λ o. 0 < length o.name) shown.outputs (map output_of columns) named
        (of_names columns are.names);
    longer = behind shown.outputs (map output_of columns) (some columns are.some);
  }
    where
      of_names : (cs : List Column) → AllByRecursion (λ c. 0 < length c.name) cs → AreNamed (map output_of cs)
      of_names [] h = tt
      of_names (c ∷ cs) h = (h.0, of_names cs h.1)

      some : (cs : List Column) → 0 < length cs → 0 < length (map output_of cs)
      some [] h = h
      some (c ∷ cs) h = omega arith

      behind : (xs ys : List Output) → 0 < length ys → length xs < length (xs ++ ys)
      behind [] ys h = h
      behind (x ∷ xs) ys h = let rest = behind xs ys h in omega (arith, rest)

  one_more : (xs : List Output) (o : Output) → length xs < length (xs ++ o ∷ [])
  one_more [] o = omega arith
  one_more (x ∷ xs) o = let rest = one_more xs o in omega (arith, rest)

  one_shown : (shown : Shown) (item : Item) → ItemFilled item → AreNamed shown.outputs
      → Unknown (shown_with entries shown item) ≡ None → ShowsMore shown (shown_with entries shown item)
  one_shown shown items.Star has named none =
      columns_more shown 0 (all_columns entries) named (all_filled entries filled)
  one_shown shown (items.StarOf name) has named none = by_span (columns_of_entry name entries) refl none
    where
      by_span : (found : Option Span) → columns_of_entry name entries ≡ found
          → Unknown (with_span shown name found) ≡ None → ShowsMore shown (with_span shown name found)
      by_span None is none = absurd (cc (both_none shown.findings.unknown_column (Some name) none).1)
      by_span (Some s) is none = columns_more shown s.from s.columns named (span_filled name entries s filled is)
  one_shown shown (items.Expr e alias) has named none = record {
    names = all_append (λ o. 0 < length o.name) shown.outputs _ named (by_alias alias has, tt);
    longer = one_more shown.outputs _;
  }
    where
      position : ℕ
      position = suc (length shown.outputs)

      x : Typed
      x = typed e (item_context entries) (length shown.calls)

      by_alias : (alias : Option Name) → ItemFilled (items.Expr e alias) → 0 < length (output_name alias e position)
      by_alias None has = name_given e (length shown.calls) position
          (both_none shown.findings.unknown_column x.findings.unknown_column none).1
      by_alias (Some name) has = has

  before_one : (shown : Shown) (item : Item) → Unknown (shown_with entries shown item) ≡ None → Unknown shown ≡ None
  before_one shown items.Star none = none
  before_one shown (items.StarOf name) none = by_span (columns_of_entry name entries) none
    where
      by_span : (found : Option Span) → Unknown (with_span shown name found) ≡ None → Unknown shown ≡ None
      by_span None none = (both_none shown.findings.unknown_column (Some name) none).0
      by_span (Some s) none = none
  before_one shown (items.Expr e alias) none = (both_none shown.findings.unknown_column _ none).0

  before_all : (shown : Shown) (found : List Item) → Unknown (all_shown entries shown found) ≡ None
      → Unknown shown ≡ None
  before_all shown [] none = none
  before_all shown (item ∷ rest) none =
      before_one shown item (before_all (shown_with entries shown item) rest none)

  pub all_named : (shown : Shown) (found : List Item) → AllByRecursion ItemFilled found → AreNamed shown.outputs
      → Unknown (all_shown entries shown found) ≡ None
      → AreNamed (all_shown entries shown found).outputs
      × (length shown.outputs + length found ≤ length (all_shown entries shown found).outputs)
  all_named shown [] has named none = (named, omega arith)
  all_named shown (item ∷ rest) has named none =
      let next : Shown = shown_with entries shown item in
      let here : ShowsMore shown next = one_shown shown item has.0 named (before_all next rest none) in
      let others = all_named next rest has.1 here.names none in
      (others.0, omega (arith, here.longer, others.1))
