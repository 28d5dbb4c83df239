-- Gaps: what is read as one is one, and what is one is read.
use Rattle.std.proofs.Common.{◌≡◌, ℕ, Bool, true, false, not, ◌&&◌, List, [], ◌∷◌, ◌++◌, drop, Option, Some, None}
use Rattle.std.proofs.Common.{option_map, refl, sym, ap, ◌∙◌, IsTrue, ◌==◌, eqb, eqb-true}
use Rattle.std.specs.List.{list_all}
use Rattle.std.proofs.lemmas.Bool.{and_parts, and_from}
use Rattle.wh_grammar.specs.Lexing.{IsGap, blank, line_comment, last_comment, comment, is_inline, has_comment_end}
use Rattle.wh_grammar.specs.Lexing.{begins_with, is_byte}
use Rattle.wh_lex.proofs.Standing.{or_false}
use Rattle.wh_lex.specs.Front.{line_rest, comment_rest, front_of, front_behind, gap}

-- bytes that begin with a byte are it, before the others
pub begins : (b : ℕ) (bytes : List ℕ) → begins_with (is_byte b) bytes ≡ true → bytes ≡ b ∷ drop 1 bytes
begins b [] h = cc
begins b (c ∷ bytes) h = ap (λ x. x ∷ bytes) (sym (eqb-true b c h))

-- ---- to the end of the line

data EndsLine (bytes rest : List ℕ) : Type 0 where
  newline : (inside : List ℕ) → bytes ≡ inside ++ 10 ∷ rest → IsTrue (list_all is_inline inside) → EndsLine bytes rest
  at_end : (inside : List ℕ) → bytes ≡ inside → rest ≡ [] → IsTrue (list_all is_inline inside) → EndsLine bytes rest

one_inside : (b : ℕ) (bytes rest : List ℕ) → is_inline b ≡ true → EndsLine bytes rest → EndsLine (b ∷ bytes) rest
one_inside b bytes rest h (newline inside e all) =
    newline (b ∷ inside) (ap (λ l. b ∷ l) e) (and_from (is_inline b) _ h all)
one_inside b bytes rest h (at_end inside e none all) =
    at_end (b ∷ inside) (ap (λ l. b ∷ l) e) none (and_from (is_inline b) _ h all)

is_newline : (b : ℕ) → is_inline b ≡ false → b ≡ 10
is_newline b h = eqb-true b 10 (not_inline (eqb b 10) h)
  where
    not_inline : (r : Bool) → not r ≡ false → r ≡ true
    not_inline true h = refl
    not_inline false h = sym h

line_by : (b : ℕ) (bytes : List ℕ) (r : Bool) → is_inline b ≡ r → EndsLine bytes (line_rest bytes)
    → EndsLine (b ∷ bytes) (line_rest (b ∷ bytes))
line_by b bytes true e ih = simp e (one_inside b bytes (line_rest bytes) e ih)
line_by b bytes false e ih = simp e (newline [] (ap (λ x. x ∷ bytes) (is_newline b e)) refl)

ends_line : (bytes : List ℕ) → EndsLine bytes (line_rest bytes)
ends_line [] = at_end [] refl refl refl
ends_line (b ∷ bytes) = line_by b bytes (is_inline b) refl (ends_line bytes)

gap_from_line : (bytes rest : List ℕ) → EndsLine bytes rest → IsGap (45 ∷ 45 ∷ bytes) rest
gap_from_line bytes rest (newline inside e all) = line_comment inside (ap (λ l. 45 ∷ 45 ∷ l) e) all
gap_from_line bytes rest (at_end inside e none all) = last_comment inside (ap (λ l. 45 ∷ 45 ∷ l) e) none all

pub line-IsGap : (bytes : List ℕ) → IsGap (45 ∷ 45 ∷ bytes) (line_rest bytes)
line-IsGap bytes = gap_from_line bytes (line_rest bytes) (ends_line bytes)

line_rest-newline : (inside rest : List ℕ) → IsTrue (list_all is_inline inside) → line_rest (inside ++ 10 ∷ rest) ≡ rest
line_rest-newline [] rest h = refl
line_rest-newline (b ∷ inside) rest h =
    let both = and_parts (is_inline b) (list_all is_inline inside) h in
    rw both.0 (line_rest-newline inside rest both.1)

line_rest-end : (inside : List ℕ) → IsTrue (list_all is_inline inside) → line_rest inside ≡ []
line_rest-end [] h = refl
line_rest-end (b ∷ inside) h =
    let both = and_parts (is_inline b) (list_all is_inline inside) h in
    rw both.0 (line_rest-end inside both.1)

-- ---- to the first star and slash

abbrev ends_here : ℕ → List ℕ → Bool
ends_here b bytes = b == 42 && begins_with (is_byte 47) bytes

abbrev EndsComment : List ℕ → Option (List ℕ) → Type 0
EndsComment bytes None = Unit {0}
EndsComment bytes (Some rest) = (inside : List ℕ) × (bytes ≡ inside ++ 42 ∷ 47 ∷ rest)
    × (has_comment_end inside ≡ false)

-- a star that isn't the end before what is inside and the end
same_front : (b : ℕ) (inside rest : List ℕ) → ends_here b (inside ++ 42 ∷ 47 ∷ rest) ≡ ends_here b inside
same_front b [] rest = refl
same_front b (c ∷ inside) rest = refl

one_before : (b : ℕ) (bytes : List ℕ) (o : Option (List ℕ)) → ends_here b bytes ≡ false → EndsComment bytes o
    → EndsComment (b ∷ bytes) o
one_before b bytes None h k = tt
one_before b bytes (Some rest) h k =
    let none : ends_here b k.0 ≡ false = sym (same_front b k.0 rest) ∙ ap (ends_here b) (sym k.1) ∙ h in
    (b ∷ k.0, ap (λ l. b ∷ l) k.1, rw none k.2)

comment_by : (b : ℕ) (bytes : List ℕ) (r : Bool) → ends_here b bytes ≡ r → EndsComment bytes (comment_rest bytes)
    → EndsComment (b ∷ bytes) (comment_rest (b ∷ bytes))
comment_by b bytes true e ih =
    let both = and_parts (b == 42) (begins_with (is_byte 47) bytes) e in
    simp e ([], ap (λ x. x ∷ bytes) (eqb-true b 42 both.0) ∙ ap (λ l. 42 ∷ l) (begins 47 bytes both.1), refl)
comment_by b bytes false e ih = simp e (one_before b bytes (comment_rest bytes) e ih)

ends_comment : (bytes : List ℕ) → EndsComment bytes (comment_rest bytes)
ends_comment [] = tt
ends_comment (b ∷ bytes) = comment_by b bytes (ends_here b bytes) refl (ends_comment bytes)

abbrev pub GapIf : List ℕ → Option (List ℕ) → Type 0
GapIf bytes None = Unit {0}
GapIf bytes (Some rest) = IsGap bytes rest

pub comment-IsGap : (bytes : List ℕ) → GapIf (47 ∷ 42 ∷ bytes) (comment_rest bytes)
comment-IsGap bytes = gap_by bytes (comment_rest bytes) (ends_comment bytes)
  where
    gap_by : (bytes : List ℕ) (o : Option (List ℕ)) → EndsComment bytes o → GapIf (47 ∷ 42 ∷ bytes) o
    gap_by bytes None h = tt
    gap_by bytes (Some rest) h = comment h.0 (ap (λ l. 47 ∷ 42 ∷ l) h.1) h.2

comment_rest-end : (inside rest : List ℕ) → has_comment_end inside ≡ false
    → comment_rest (inside ++ 42 ∷ 47 ∷ rest) ≡ Some rest
comment_rest-end [] rest h = refl
comment_rest-end (b ∷ inside) rest h =
    let both = or_false (ends_here b inside) (has_comment_end inside) h in
    rw (same_front b inside rest, both.0) (comment_rest-end inside rest both.1)

-- ---- what is a gap is read as one

pub gap_is_read : (bytes rest : List ℕ) → IsGap bytes rest → front_of bytes ≡ Some (gap rest)
unfolding front_behind
gap_is_read bytes rest (blank b e h) = ap front_of e ∙ rw h refl
gap_is_read bytes rest (line_comment inside e all) =
    ap front_of e ∙ ap (λ l. Some (gap l)) (line_rest-newline inside rest all)
gap_is_read bytes rest (last_comment inside e none all) =
    ap front_of e ∙ ap (λ l. Some (gap l)) (line_rest-end inside all ∙ sym none)
gap_is_read bytes rest (comment inside e none) = ap front_of e ∙ ap (option_map gap) (comment_rest-end inside rest none)
