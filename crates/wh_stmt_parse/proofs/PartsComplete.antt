-- What is a part of a statement is read as it.
use Rattle.std.proofs.Common.{◌≡◌, ℕ, ◌<◌, ◌≤◌, Bool, true, false, if◌then◌else◌, List, [], ◌∷◌, Option}
use Rattle.std.proofs.Common.{Some, length, refl, arith}
use Rattle.std.specs.Prelude.{codes, bytes_eq}
use denote.Enum.Bare.{sameb}
use Rattle.wh_value.specs.declared.column.ColumnType.{ColumnType}
use Rattle.wh_value.specs.declared.column.Column.{Column}
use Rattle.wh_ast.specs.declared.query.Sort.{Sort}
use Rattle.wh_ast.specs.declared.query.OrderKey as sort_key
use Rattle.wh_grammar.specs.Words.{is_reserved}
use Rattle.wh_grammar.specs.Token as token
use Rattle.wh_grammar.specs.Token.{Token, Word, Quoted, NumberToken, SignToken}
use Rattle.wh_grammar.specs.Name.{IsName, word, quoted}
use Rattle.wh_grammar.specs.Parts as g
use Rattle.wh_grammar.specs.Parts.{IsType, AreColumns, MayRetain, MayAppend, IsDirection, IsKey, AreSorts, MayHaveOrder}
use Rattle.wh_grammar.specs.Spelled.{MayFollow, follows_none, follows}
use Rattle.wh_cursor.specs.declared.key.TokenClass.TheVariants as k
use Rattle.wh_cursor.specs.contracts.key.TokenClass.{the_type}
use Rattle.wh_cursor.specs.Keys.{same_key, key_of}
use Rattle.wh_cursor.specs.Steps.{sees, sees_word}
use Rattle.wh_cursor.proofs.Combine.{sees_word_is, expect_word_reads, equal_reads, read_word_reads, read_number_reads}
use Rattle.wh_cursor.proofs.Combine.{name_reads, name_shorter, other_word, end_no_word, sign_no_word}
use Rattle.wh_dml_parse.specs.Follow.{ends_names}
use Rattle.wh_dml_parse.specs.Laws as dml_laws
use Rattle.wh_stmt_parse.specs.Parts.{type_of, read_type, read_column, read_columns, read_retention}
use Rattle.wh_stmt_parse.specs.Parts.{read_truth, read_append, read_key, read_direction, read_sort}
use Rattle.wh_stmt_parse.specs.Parts.{read_sorts, read_order, read_after}
use Rattle.wh_cursor.proofs.ListLemmas.{GivesListed, listed-last, listed-more, listed-reads}

-- ---- columns

type-reads : {w : List ℕ} {t : ColumnType} → IsType w t → type_of w ≡ Some t
unfolding type_of
type-reads g.number = refl
type-reads g.int = refl
type-reads g.integer = refl
type-reads g.bigint = refl
type-reads g.varchar = refl
type-reads g.string = refl
type-reads g.text = refl
type-reads g.boolean = refl

column-reads : {ts us : List Token} {name w : List ℕ} {t : ColumnType} → IsName ts name (Word w ∷ us) → IsType w t
    → read_column ts ≡ Some (record { name = name; column_type = t }, us)
unfolding read_column read_type
column-reads {us = us} {w = w} n t = rw (name_reads n, read_word_reads w us, type-reads t) refl

columns-give : {ts us : List Token} {cs : List Column} → AreColumns ts cs us → sees k.Comma us ≡ false
    → GivesListed read_column ts cs us
columns-give (g.last_column n t) end = let less = name_shorter n in
    listed-last (column-reads n t) (omega (arith, less)) end
columns-give (g.more_columns n t more) end = let less = name_shorter n in
    listed-more (column-reads n t) (omega (arith, less)) (columns-give more end)

pub columns-reads : {ts us : List Token} {cs : List Column} → AreColumns ts cs us → sees k.Comma us ≡ false
    → read_columns ts ≡ Some (cs, us)
unfolding read_columns
columns-reads h end = listed-reads (columns-give h end)

-- ---- options at the end

pub retention-reads : {ts : List Token} {r : Option ℕ} → MayRetain ts r → read_retention ts ≡ Some (r, [])
unfolding read_retention
retention-reads g.no_retention = rw (end_no_word (codes "DATA_RETENTION_TIME_IN_DAYS")) refl
retention-reads (g.retention {n = n}) =
    rw (
      sees_word_is (codes "DATA_RETENTION_TIME_IN_DAYS") (SignToken token.Equal ∷ NumberToken n ∷ []),
      equal_reads (NumberToken n ∷ []),
      read_number_reads n [],
    ) refl

true-reads : (us : List Token) → read_truth (Word (codes "TRUE") ∷ us) ≡ Some (true, us)
unfolding read_truth
true-reads us = rw (sees_word_is (codes "TRUE") us) refl

false-reads : (us : List Token) → read_truth (Word (codes "FALSE") ∷ us) ≡ Some (false, us)
unfolding read_truth
false-reads us = rw (other_word (codes "TRUE") (codes "FALSE") us refl, expect_word_reads (codes "FALSE") us) refl

pub append-reads : {ts : List Token} {b : Bool} → MayAppend ts b → read_append ts ≡ Some (b, [])
unfolding read_append
append-reads g.no_append = rw (end_no_word (codes "APPEND_ONLY")) refl
append-reads g.append_true =
    rw (
      sees_word_is (codes "APPEND_ONLY") (SignToken token.Equal ∷ Word (codes "TRUE") ∷ []),
      equal_reads (Word (codes "TRUE") ∷ []),
      true-reads [],
    ) refl
append-reads g.append_false =
    rw (
      sees_word_is (codes "APPEND_ONLY") (SignToken token.Equal ∷ Word (codes "FALSE") ∷ []),
      equal_reads (Word (codes "FALSE") ∷ []),
      false-reads [],
    ) refl

-- ---- sort keys

no_number : (w : List ℕ) (us : List Token) → is_reserved w ≡ false → sees k.Number (Word w ∷ us) ≡ false
unfolding sees same_key key_of
no_number w us r = rw r (by (bytes_eq w (codes "SUM")) (bytes_eq w (codes "COUNT")))
  where
    by : (a b : Bool) → sameb the_type (if a then k.Sum else if b then k.Count else k.Name) k.Number ≡ false
    by true b = refl
    by false true = refl
    by false false = refl

no_number_quoted : (name : List ℕ) (us : List Token) → sees k.Number (Quoted name ∷ us) ≡ false
unfolding sees same_key key_of
no_number_quoted name us = refl

a_number : (n : ℕ) (us : List Token) → sees k.Number (NumberToken n ∷ us) ≡ true
unfolding sees same_key key_of
a_number n us = refl

name_no_number : {ts us : List Token} {name : List ℕ} → IsName ts name us → sees k.Number ts ≡ false
name_no_number (word {w = w} {us = us} r c) = no_number w us r
name_no_number (quoted {name = name} {us = us}) = no_number_quoted name us

key-reads : {ts us : List Token} {x : sort_key.OrderKey} → IsKey ts x us → read_key ts ≡ Some (x, us)
unfolding read_key
key-reads (g.key_name n) = rw (name_no_number n, name_reads n) refl
key-reads (g.key_position {us = us} {n = n}) = rw (a_number n us, read_number_reads n us) refl

key-shorter : {ts us : List Token} {x : sort_key.OrderKey} → IsKey ts x us → length us < length ts
key-shorter (g.key_name n) = name_shorter n
key-shorter g.key_position = omega arith

direction-shorter : {ts us : List Token} {d : Bool} → IsDirection ts d us → length us ≤ length ts
direction-shorter g.no_direction = omega arith
direction-shorter g.ascending = omega arith
direction-shorter g.descending = omega arith

-- neither ASC nor DESC comes next
record NoDirection (us : List Token) : Type 0 where
  ascending : sees_word (codes "ASC") us ≡ false
  descending : sees_word (codes "DESC") us ≡ false

none_at_end : NoDirection []
none_at_end = record { ascending = end_no_word (codes "ASC"); descending = end_no_word (codes "DESC") }

none_at_comma : (us : List Token) → NoDirection (SignToken token.Comma ∷ us)
none_at_comma us = record {
  ascending = sign_no_word (codes "ASC") token.Comma us;
  descending = sign_no_word (codes "DESC") token.Comma us;
}

direction-reads : {ts us : List Token} {d : Bool} → IsDirection ts d us → NoDirection us
    → read_direction ts ≡ Some (d, us)
unfolding read_direction
direction-reads g.no_direction none = rw (none.descending, none.ascending) refl
direction-reads (g.ascending {ts = ts}) none =
    rw (other_word (codes "DESC") (codes "ASC") ts refl, sees_word_is (codes "ASC") ts) refl
direction-reads (g.descending {ts = ts}) none = rw (sees_word_is (codes "DESC") ts) refl

sort-reads : {ts us vs : List Token} {x : sort_key.OrderKey} {d : Bool} → IsKey ts x us → IsDirection us d vs
    → NoDirection vs
    → read_sort ts ≡ Some (record { key = x; descending = d }, vs)
unfolding read_sort
sort-reads key direction none = rw (key-reads key, direction-reads direction none) refl

comma_not : sees k.Comma [] ≡ false
unfolding sees same_key key_of
comma_not = refl

sorts-give : {ts : List Token} {sorts : List Sort} → AreSorts ts sorts → GivesListed read_sort ts sorts []
sorts-give (g.last_sort key direction) =
    let a = key-shorter key in
    let b = direction-shorter direction in
    listed-last (sort-reads key direction none_at_end) (omega (arith, a, b)) comma_not
sorts-give (g.more_sorts {vs = vs} key direction more) =
    let a = key-shorter key in
    let b = direction-shorter direction in
    listed-more (sort-reads key direction (none_at_comma vs)) (omega (arith, a, b)) (sorts-give more)

sorts-reads : {ts : List Token} {sorts : List Sort} → AreSorts ts sorts → read_sorts ts ≡ Some (sorts, [])
unfolding read_sorts
sorts-reads h = listed-reads (sorts-give h)

pub order-reads : {ts : List Token} {sorts : List Sort} → MayHaveOrder ts sorts → read_order ts ≡ Some (sorts, [])
unfolding read_order
order-reads g.no_order = rw (end_no_word (codes "ORDER")) refl
order-reads (g.an_order {ts = ts} h) =
    rw (sees_word_is (codes "ORDER") (Word (codes "BY") ∷ ts), expect_word_reads (codes "BY") ts, sorts-reads h) refl

-- ---- tasks

pub after-reads : dml_laws.ReadsNames → {ts us : List Token} {names : List (List ℕ)} → MayFollow ts names us
    → ends_names us ≡ true → sees_word (codes "AFTER") us ≡ false → read_after ts ≡ Some (names, us)
unfolding read_after
after-reads names_read follows_none ends none = rw none refl
after-reads names_read (follows {ts = ts} {us = us} {names = names} h) ends none =
    rw (sees_word_is (codes "AFTER") ts, (names_read ts names us).1 (record { names = h; ends = ends })) refl
