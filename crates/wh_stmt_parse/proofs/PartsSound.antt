-- What is read as a part of a statement is one.
use Rattle.std.proofs.Common.{◌≡◌, ℕ, Bool, true, false, if◌then◌else◌, List, [], ◌∷◌, Option}
use Rattle.std.proofs.Common.{Some, None, refl, sym, subst}
use Rattle.std.specs.Prelude.{codes, bytes_eq}
use Rattle.std.proofs.lemmas.Option.{same_Some}
use Rattle.std.proofs.lemmas.Slice.Eq.{bytes_eq-Decides}
use Rattle.wh_value.specs.declared.column.ColumnType.{ColumnType}
use Rattle.wh_value.specs.declared.column.Column.{Column}
use Rattle.wh_ast.specs.declared.query.Sort.{Sort}
use Rattle.wh_ast.specs.declared.query.OrderKey.TheVariants as key
use Rattle.wh_grammar.specs.Token as token
use Rattle.wh_grammar.specs.Token.{Token, Word, SignToken}
use Rattle.wh_grammar.specs.Name.{IsName}
use Rattle.wh_grammar.specs.Parts as g
use Rattle.wh_grammar.specs.Parts.{IsType, AreColumns, MayRetain, MayAppend, IsDirection, IsKey, AreSorts, MayHaveOrder}
use Rattle.wh_grammar.specs.Spelled.{MayFollow, follows_none, follows}
use Rattle.wh_cursor.specs.declared.key.TokenClass.TheVariants as k
use Rattle.wh_cursor.specs.Steps.{tail, sees}
use Rattle.wh_cursor.proofs.Yields.{Yields, yields, follow, mapped, yields_law}
use Rattle.wh_cursor.proofs.Combine.{if_eaten_word, then_expect_word, then_expect_key, word-yields}
use Rattle.wh_cursor.proofs.Combine.{number-yields, name-yields}
use Rattle.wh_dml_parse.specs.Follow.{AreNamesAt}
use Rattle.wh_dml_parse.specs.Laws as dml_laws
use Rattle.wh_stmt_parse.specs.Parts.{type_of, read_type, read_column, read_columns, retention_by, read_retention}
use Rattle.wh_stmt_parse.specs.Parts.{truth_by, read_truth, append_by, read_append, key_by, read_key, direction_by}
use Rattle.wh_stmt_parse.specs.Parts.{read_direction, read_sort, read_sorts, order_by, read_order, after_by, read_after}
use Rattle.wh_cursor.proofs.Combine.{given-yields}
use Rattle.wh_cursor.proofs.ListLemmas.{listed-sound}
use Rattle.wh_stmt_parse.proofs.Carrying.{stand, then_is}

-- ---- columns

named : {w c : List ℕ} {s t : ColumnType} → IsType c s → w ≡ c → Some s ≡ Some t → IsType w t
named {w} {c} {s} {t} h e i = subst (λ (v : List ℕ). IsType v t) (sym e) (subst (IsType c) (same_Some _ _ i) h)

by_word : (w c : List ℕ) {x y : Option ColumnType} {t : ColumnType} → (w ≡ c → x ≡ Some t → IsType w t)
    → (y ≡ Some t → IsType w t) → (if bytes_eq w c then x else y) ≡ Some t
    → IsType w t
by_word w c {x} {y} {t} f g h = by (bytes_eq w c) (λ r. (bytes_eq-Decides w c).0 r) h
  where
    by : (r : Bool) → (r ≡ true → w ≡ c) → (if r then x else y) ≡ Some t → IsType w t
    by true e h = f (e refl) h
    by false e h = g h

pub type_some : (w : List ℕ) (t : ColumnType) → type_of w ≡ Some t → IsType w t
unfolding type_of
type_some w t =
    by_word w (codes "NUMBER") (λ e i. named g.number e i) (
    by_word w (codes "INT") (λ e i. named g.int e i) (
    by_word w (codes "INTEGER") (λ e i. named g.integer e i) (
    by_word w (codes "BIGINT") (λ e i. named g.bigint e i) (
    by_word w (codes "VARCHAR") (λ e i. named g.varchar e i) (
    by_word w (codes "STRING") (λ e i. named g.string e i) (
    by_word w (codes "TEXT") (λ e i. named g.text e i) (
    by_word w (codes "BOOLEAN") (λ e i. named g.boolean e i) (λ none. absurd (cc)))))))))

type-sound : (ts : List Token) → Yields (read_type ts) (λ t us. (w : List ℕ) × (ts ≡ Word w ∷ us) × IsType w t)
unfolding read_type
type-sound ts = follow (word-yields ts) (λ w us h. given-yields (type_of w) us (λ t e. (w, h, type_some w t e)))

abbrev pub IsColumn : List Token → Column → List Token → Type 0
IsColumn ts c us = (w : List ℕ) × IsName ts c.name (Word w ∷ us) × IsType w c.column_type

column-sound : (ts : List Token) → Yields (read_column ts) (λ c us. IsColumn ts c us)
unfolding read_column
column-sound ts = follow (name-yields ts) (λ name us h. follow (type-sound us) (λ t vs i.
    yields (record { name = name; column_type = t }) vs
    (i.0, subst (λ (us : List Token). IsName ts name us) i.1 h, i.2)))

pub columns-sound : (ts : List Token) → Yields (read_columns ts) (λ cs us. AreColumns ts cs us)
unfolding read_columns
columns-sound = listed-sound read_column IsColumn AreColumns column-sound (λ ts us c h end. g.last_column h.1 h.2)
    (λ ts us vs c cs h l. g.more_columns h.1 h.2 l)

-- ---- options at the end

pub retention-sound : (ts : List Token) → Yields (read_retention ts) (λ r us. us ≡ [] → MayRetain ts r)
unfolding read_retention
retention-sound ts = if_eaten_word (codes "DATA_RETENTION_TIME_IN_DAYS") ts retention_by
    (λ w. then_expect_key k.Equal (tail ts) _ (λ e. follow (number-yields (tail (tail ts))) (λ n us h.
    yields (Some n) us (λ end. stand (λ (ts : List Token). MayRetain ts (Some n))
    (then_is w (then_is e (then_is h end))) g.retention))))
    (λ _. yields None ts (λ end. stand (λ (ts : List Token). MayRetain ts None) end g.no_retention))

abbrev truth_word : Bool → List ℕ
truth_word true = codes "TRUE"
truth_word false = codes "FALSE"

truth-sound : (ts : List Token) → Yields (read_truth ts) (λ b us. ts ≡ Word (truth_word b) ∷ us)
unfolding read_truth
truth-sound ts = if_eaten_word (codes "TRUE") ts truth_by
    (λ w. yields true (tail ts) w)
    (λ _. then_expect_word (codes "FALSE") ts _ (λ w. yields false (tail ts) w))

append_with : (b : Bool) → MayAppend (Word (codes "APPEND_ONLY") ∷ SignToken token.Equal ∷ Word (truth_word b) ∷ []) b
append_with true = g.append_true
append_with false = g.append_false

pub append-sound : (ts : List Token) → Yields (read_append ts) (λ b us. us ≡ [] → MayAppend ts b)
unfolding read_append
append-sound ts = if_eaten_word (codes "APPEND_ONLY") ts append_by
    (λ w. then_expect_key k.Equal (tail ts) _ (λ e. mapped (truth-sound (tail (tail ts))) (λ b us h end.
    stand (λ (ts : List Token). MayAppend ts b) (then_is w (then_is e (then_is h end))) (append_with b))))
    (λ _. yields false ts (λ end. stand (λ (ts : List Token). MayAppend ts false) end g.no_append))

-- ---- sort keys

key-sound : (ts : List Token) → Yields (read_key ts) (λ x us. IsKey ts x us)
unfolding read_key
key-sound ts = by (sees k.Number ts)
  where
    by : (b : Bool) → Yields (key_by b ts) (λ x us. IsKey ts x us)
    by true = follow (number-yields ts) (λ n us h. yields (key.Position n) us
        (stand (λ (ts : List Token). IsKey ts (key.Position n) us) h g.key_position))
    by false = follow (name-yields ts) (λ name us h. yields (key.Name name) us (g.key_name h))

direction-sound : (ts : List Token) → Yields (read_direction ts) (λ d us. IsDirection ts d us)
unfolding read_direction
direction-sound ts = if_eaten_word (codes "DESC") ts direction_by
    (λ w. yields true (tail ts) (stand (λ (ts : List Token). IsDirection ts true (tail ts)) w g.descending))
    (λ _. if_eaten_word (codes "ASC") ts (λ (_ : Bool). λ us. Some (false, us))
    (λ w. yields false (tail ts) (stand (λ (us : List Token). IsDirection us false (tail ts)) w g.ascending))
    (λ _. yields false ts g.no_direction))

abbrev pub IsSort : List Token → Sort → List Token → Type 0
IsSort ts s vs = (us : List Token) × IsKey ts s.key us × IsDirection us s.descending vs

sort-sound : (ts : List Token) → Yields (read_sort ts) (λ s us. IsSort ts s us)
unfolding read_sort
sort-sound ts = follow (key-sound ts)
    (λ key us h. follow (direction-sound us) (λ d vs i. yields (record { key = key; descending = d }) vs (us, h, i)))

abbrev AreSortsTo : List Token → List Sort → List Token → Type 0
AreSortsTo ts sorts us = us ≡ [] → AreSorts ts sorts

sorts-sound : (ts : List Token) → Yields (read_sorts ts) (λ sorts us. AreSortsTo ts sorts us)
unfolding read_sorts
sorts-sound = listed-sound read_sort IsSort AreSortsTo sort-sound
    (λ ts us s h last end. g.last_sort h.1 (subst (λ (us : List Token). IsDirection h.0 s.descending us) end h.2))
    (λ ts us vs s more h l end. g.more_sorts h.1 h.2 (l end))

pub order-sound : (ts : List Token) → Yields (read_order ts) (λ sorts us. us ≡ [] → MayHaveOrder ts sorts)
unfolding read_order
order-sound ts = if_eaten_word (codes "ORDER") ts order_by
    (λ w. then_expect_word (codes "BY") (tail ts) _ (λ b. mapped (sorts-sound (tail (tail ts))) (λ sorts us h end.
    stand (λ (ts : List Token). MayHaveOrder ts sorts) (then_is w b) (g.an_order (h end)))))
    (λ _. yields [] ts (λ end. stand (λ (ts : List Token). MayHaveOrder ts []) end g.no_order))

-- ---- tasks

pub after-sound : dml_laws.ReadsNames → (ts : List Token) → Yields (read_after ts) (λ names us. MayFollow ts names us)
unfolding read_after
after-sound names_read ts = if_eaten_word (codes "AFTER") ts after_by
    (λ w. mapped
    (yields_law {Q = λ names us. AreNamesAt (tail ts) names us} (λ names us h. (names_read (tail ts) names us).0 h))
    (λ names us h. stand (λ (ts : List Token). MayFollow ts names us) w (follows h.names)))
    (λ _. yields [] ts follows_none)
