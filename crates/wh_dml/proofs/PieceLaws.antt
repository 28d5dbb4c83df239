-- What pieces of a target come to, one behind the other.
--     answered           what the calls of a function say of pieces
--     joined_none, joined_more     the pieces so far are joined, and one more
--     all_joined         no piece is left
--     piece_undefined    a piece of whose rows nothing is meant
use Rattle.std.specs.Prelude.{◌≡◌, ℕ, length, List, [], ◌∷◌, ◌++◌, Option, Some, None, Result, Ok, Err}
use Rattle.std.specs.List.{AllZip, flat_map}
use Rattle.std.specs.Fn.{Shared, FnReturnsAt}
use Rattle.std.proofs.Common.{refl, sym, ap, subst, ◌∙◌, append-nil, arith}
use Rattle.std.proofs.lemmas.List.Concat.{flat_map-append}
use denote.Ref.{Bor}
use Rattle.wh_value.specs.Value.{Row}
use Rattle.wh_frame.specs.Partition.{Partition}
use Rattle.wh_meaning.specs.Scalar.{of_two}
use Rattle.wh_scalar.specs.declared.fault.EvalFault.{EvalFault}
use Rattle.wh_scalar.specs.declared.fault.EvalFault.TheVariants.{NumberOutOfRange, OutOfMemory}
use Rattle.wh_workers.specs.Pieces.{PiecesOf}
use Rattle.wh_workers.proofs.Answered.{zip_as}
use Rattle.wh_dml.specs.View.{targets_of}
use Rattle.wh_dml.specs.Pieces.{ShowsOn, AreOn}

-- ---- a list of pieces in two

record Parted {A B : Type 0} (R : A → B → Type 0) (xs : List A) (front back : List B) : Type 0 where
  before_it : List A
  behind_it : List A
  whole : xs ≡ before_it ++ behind_it
  first : AllZip R before_it front
  last : AllZip R behind_it back

parted : {A B : Type 0} (R : A → B → Type 0) (xs : List A) (front back : List B) → AllZip R xs (front ++ back)
    → Parted R xs front back
parted R xs [] back zip = record { before_it = []; behind_it = xs; whole = refl; first = tt; last = zip }
parted R [] (f ∷ front) back zip = absurd zip
parted R (x ∷ xs) (f ∷ front) back zip =
    let rest = parted R xs front back zip.1 in
    record {
      before_it = x ∷ rest.before_it;
      behind_it = rest.behind_it;
      whole = ap (λ l. x ∷ l) rest.whole;
      first = (zip.0, rest.first);
      last = rest.last;
    }

module _ {T A : Type 0} (view : T → A) (meant : List (ℕ × Row) → Option A) where
  abbrev on : List (Bor Partition) → Option A
  on target = meant (targets_of target)

  one_piece : (target : List (Bor Partition)) (answer : Result T EvalFault)
      → AreOn view meant target (answer ∷ []) → ShowsOn view meant target answer
  one_piece target answer ([], whole, zip) = absurd zip
  one_piece target answer (x ∷ [], whole, zip) =
      subst (λ t. ShowsOn view meant t answer) (sym (append-nil x) ∙ whole) zip.0
  one_piece target answer (x ∷ y ∷ pieces, whole, zip) = absurd zip.1

  -- the pieces so far are joined
  abbrev pub Joined : List (Result T EvalFault) → T → Type 0
  Joined found so_far = (target : List (Bor Partition)) → AreOn view meant target found → on target ≡ Some (view so_far)

  pub joined_none : (so_far : T) → meant [] ≡ Some (view so_far) → Joined [] so_far
  joined_none so_far empty = none
    where
      none : (target : List (Bor Partition)) → AreOn view meant target [] → on target ≡ Some (view so_far)
      none target ([], whole, zip) = rw (sym whole) empty
      none target (p ∷ pieces, whole, zip) = absurd zip

  pub all_joined : (found rest whole : List (Result T EvalFault)) (so_far : T) (left : ℕ) → Joined found so_far
      → left ≡ 0 → left ≡ length rest → found ++ rest ≡ whole → Joined whole so_far
  all_joined found [] whole so_far left so none count is =
      subst (λ l. Joined l so_far) (sym (append-nil found) ∙ is) so
  all_joined found (r ∷ rest) whole so_far left so none count is = absurd (omega (arith, none, count))

  -- the calls of a function
  pub answered : {F : Type 0} (g : Shared F (Bor (List (Bor Partition)) × Unit {0}) (Result T EvalFault)) (f : F)
      (most : ℕ) (target : List (Bor Partition)) (found : List (Result T EvalFault))
      → ((piece : List (Bor Partition)) (answer : Result T EvalFault) → FnReturnsAt g f piece answer
      → ShowsOn view meant piece answer)
      → PiecesOf most target (λ piece answer. FnReturnsAt g f piece answer) found → AreOn view meant target found
  answered g f most target found answers cut =
      (cut.pieces, cut.whole, zip_as _ (ShowsOn view meant) answers cut.pieces found cut.answered)

-- where what some rows and what others come to are joined
module _ {T A : Type 0} (view : T → A) (join : A → A → A) (meant : List (ℕ × Row) → Option A)
    (appends : (some others : List (ℕ × Row))
    → meant (some ++ others) ≡ of_two (λ a b. Some (join a b)) (meant some) (meant others)) where
  abbrev both : Option A → Option A → Option A
  both some others = of_two (λ a b. Some (join a b)) some others

  lacks_first : (some others : Option A) → some ≡ None → both some others ≡ None
  lacks_first None others none = refl
  lacks_first (Some a) others none = absurd cc

  lacks_last : (some others : Option A) → others ≡ None → both some others ≡ None
  lacks_last None others none = refl
  lacks_last (Some a) None none = refl
  lacks_last (Some a) (Some b) none = absurd cc

  record InTwo (target : List (Bor Partition)) (front back : List (Result T EvalFault)) : Type 0 where
    some : List (Bor Partition)
    others : List (Bor Partition)
    whole : on view meant target ≡ both (on view meant some) (on view meant others)
    first : AreOn view meant some front
    last : AreOn view meant others back

  on_both : (some others : List (Bor Partition))
      → on view meant (some ++ others) ≡ both (on view meant some) (on view meant others)
  on_both some others =
      ap meant (flat_map-append (λ (p : Bor Partition). p.now.rows) some others)
      ∙ appends (targets_of some) (targets_of others)

  in_two : (target : List (Bor Partition)) (front back : List (Result T EvalFault))
      → AreOn view meant target (front ++ back) → InTwo target front back
  in_two target front back are =
      let cut = parted (ShowsOn view meant) are.0 front back are.2 in
      let some = flat_map (λ piece. piece) cut.before_it in
      let others = flat_map (λ piece. piece) cut.behind_it in
      let whole : target ≡ some ++ others =
      sym are.1 ∙ ap (flat_map (λ piece. piece)) cut.whole
      ∙ flat_map-append (λ (piece : List (Bor Partition)). piece) cut.before_it cut.behind_it in
      record {
        some = some;
        others = others;
        whole = ap (on view meant) whole ∙ on_both some others;
        first = (cut.before_it, refl, cut.first);
        last = (cut.behind_it, refl, cut.last);
      }

  pub joined_more : (found : List (Result T EvalFault)) (piece old new : T) → Joined view meant found old
      → view new ≡ join (view old) (view piece) → Joined view meant (found ++ Ok piece ∷ []) new
  joined_more found piece old new so appended = λ target are.
      let cut = in_two target found (Ok piece ∷ []) are in
      let first = so cut.some cut.first in
      let last : on view meant cut.others ≡ Some (view piece) = one_piece view meant cut.others (Ok piece) cut.last in
      cut.whole ∙ ap (λ o. both o (on view meant cut.others)) first ∙ ap (both (Some (view old))) last
      ∙ ap Some (sym appended)

  pub piece_undefined : (target : List (Bor Partition)) (front back : List (Result T EvalFault)) (fault : EvalFault)
      → AreOn view meant target (front ++ Err fault ∷ back) → ShowsOn view meant target (Err fault)
  piece_undefined target front back OutOfMemory are = tt
  piece_undefined target front back NumberOutOfRange are =
      let cut = in_two target front (Err NumberOutOfRange ∷ back) are in
      let there = in_two cut.others (Err NumberOutOfRange ∷ []) back cut.last in
      let none : on view meant there.some ≡ None =
      one_piece view meant there.some (Err NumberOutOfRange) there.first in
      cut.whole
      ∙ lacks_last (on view meant cut.some) (on view meant cut.others)
      (there.whole ∙ lacks_first (on view meant there.some) (on view meant there.others) none)
