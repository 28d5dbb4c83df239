-- Groups that are formed of pieces of rows, and then joined.
--     piece_taken, piece_lacks     what adding the rows of a piece to groups of none answers
--     Joined, joined_more          the pieces so far were joined, and one more
--     piece_undefined              a piece whose groups have no meaning
use Rattle.std.specs.Prelude.{◌≡◌, List, [], ◌∷◌, ◌++◌, Result, Ok, Err, None}
use Rattle.std.specs.List.{AllZip, flat_map}
use Rattle.std.proofs.Common.{refl, sym, ap, subst, ◌∙◌, append-nil, arith}
use Rattle.std.proofs.lemmas.List.{map-append}
use Rattle.std.proofs.lemmas.List.Concat.{flat_map-append}
use Rattle.wh_value.specs.Value.{Row}
use Rattle.wh_meaning.specs.Scalar.{Scalar}
use Rattle.wh_meaning.specs.Bag.{Bag, no_rows, bag_of, plus}
use Rattle.wh_meaning.specs.Query.{Call, grouped}
use Rattle.wh_meaning.proofs.BagLaws.{plus-assoc, plus-comm, no_rows-plus, plus-no_rows, bag_of-append, rows_of}
use Rattle.wh_meaning.proofs.BagLaws.{bag_of-rows_of, bag_of_same, count-plus}
use Rattle.wh_scalar.specs.declared.fault.EvalFault.{EvalFault}
use Rattle.wh_scalar.specs.declared.fault.EvalFault.TheVariants.{NumberOutOfRange, OutOfMemory}
use Rattle.wh_algebra.specs.declared.tuple.Tuple.{Tuple}
use Rattle.wh_algebra.specs.Tuple.{row_in, rows_in}
use Rattle.wh_aggregate.specs.declared.groups.Groups.{Groups}
use Rattle.wh_aggregate.specs.Groups.{AreOver, TakesIn}
use Rattle.wh_exec.specs.Pieces.{GroupsPiece, ArePieces}

abbrev bag_at : List Tuple → Bag
bag_at tuples = bag_of (rows_in tuples)

bag_at-append : (xs ys : List Tuple) → bag_at (xs ++ ys) ≡ plus (bag_at xs) (bag_at ys)
bag_at-append xs ys = ap bag_of (map-append row_in xs ys) ∙ bag_of-append (rows_in xs) (rows_in ys)

-- ---- at a place in a list of pieces

record At {A B : Type 0} (R : A → B → Type 0) (xs : List A) (front : List B) (y : B) (back : List B) : Type 0 where
  before : List A
  x : A
  behind : List A
  parted : xs ≡ before ++ x ∷ behind
  first : AllZip R before front
  here : R x y
  last : AllZip R behind back

at : {A B : Type 0} (R : A → B → Type 0) (xs : List A) (front : List B) (y : B) (back : List B)
    → AllZip R xs (front ++ y ∷ back) → At R xs front y back
at R [] [] y back zip = absurd zip
at R (x ∷ xs) [] y back zip =
    record { before = []; x = x; behind = xs; parted = refl; first = tt; here = zip.0; last = zip.1 }
at R [] (f ∷ front) y back zip = absurd zip
at R (x ∷ xs) (f ∷ front) y back zip =
    let rest = at R xs front y back zip.1 in
    record {
      before = x ∷ rest.before;
      x = rest.x;
      behind = rest.behind;
      parted = ap (λ l. x ∷ l) rest.parted;
      first = (zip.0, rest.first);
      here = rest.here;
      last = rest.last;
    }

none_behind : {A B : Type 0} (R : A → B → Type 0) (xs : List A) → AllZip R xs [] → xs ≡ []
none_behind R [] zip = refl
none_behind R (x ∷ xs) zip = absurd zip

whole_at : (before : List (List Tuple)) (x : List Tuple) (behind : List (List Tuple))
    → flat_map (λ piece. piece) (before ++ x ∷ behind)
    ≡ flat_map (λ piece. piece) before ++ (x ++ flat_map (λ piece. piece) behind)
whole_at before x behind = flat_map-append (λ (piece : List Tuple). piece) before (x ∷ behind)

-- ---- sums of bags

moved : (b x y : Bag) → plus (plus x b) y ≡ plus (plus x y) b
moved b x y = plus-assoc x b y ∙ ap (plus x) (plus-comm b y) ∙ sym (plus-assoc x y b)

apart : (m f p l b : Bag) → plus m (plus (plus f (plus p l)) b) ≡ plus (plus m (plus (plus f l) b)) p
apart m f p l b = bag_of_same _ _ (λ q. omega (
  arith,
  count-plus m (plus (plus f (plus p l)) b) q,
  count-plus (plus f (plus p l)) b q,
  count-plus f (plus p l) q,
  count-plus p l q,
  count-plus (plus m (plus (plus f l) b)) p q,
  count-plus m (plus (plus f l) b) q,
  count-plus (plus f l) b q,
  count-plus f l q,
))

module _ (by : List Scalar) (calls : List Call) where
  -- ---- a piece alone

  pub piece_taken : (tuples : List Tuple) (groups : Groups) → AreOver by calls (plus (bag_at tuples) no_rows) groups
      → AreOver by calls (bag_at tuples) groups
  piece_taken tuples groups over = subst (λ b. AreOver by calls b groups) (plus-no_rows (bag_at tuples)) over

  pub piece_lacks : (tuples : List Tuple) (fault : EvalFault) (groups : Groups)
      → TakesIn by calls (rows_in tuples) no_rows (Err fault) groups → GroupsPiece by calls tuples (Err fault)
  piece_lacks tuples NumberOutOfRange groups lacks = λ more.
      ap (λ b. grouped by calls (plus (bag_of more) b)) (sym (plus-no_rows (bag_at tuples))) ∙ lacks more
  piece_lacks tuples OutOfMemory groups lacks = tt

  -- ---- pieces that are joined

  module _ (before : Bag) where
    abbrev pub Joined : List (Result Groups EvalFault) → Groups → Type 0
    Joined found groups = (tuples : List Tuple) → ArePieces by calls tuples found
        → AreOver by calls (plus (bag_at tuples) before) groups

    pub joined_none : (groups : Groups) → AreOver by calls before groups → Joined [] groups
    joined_none groups over = none
      where
        none : (tuples : List Tuple) → ArePieces by calls tuples [] → AreOver by calls (plus (bag_at tuples) before) groups
        none tuples ([], whole, zip) = rw (sym whole) (rw (no_rows-plus before) over)
        none tuples (p ∷ pieces, whole, zip) = absurd zip

    pub joined_more : (found : List (Result Groups EvalFault)) (piece old new : Groups) → Joined found old
        → ((b c : Bag) → AreOver by calls b old → AreOver by calls c piece → AreOver by calls (plus b c) new)
        → Joined (found ++ Ok piece ∷ []) new
    joined_more found piece old new so joins = λ tuples are.
        let last = at (GroupsPiece by calls) are.0 found (Ok piece) [] are.2 in
        let front = flat_map (λ p. p) last.before in
        let over = so front (last.before, refl, last.first) in
        let nothing = none_behind (GroupsPiece by calls) last.behind last.last in
        let whole : bag_at tuples ≡ plus (bag_at front) (bag_at last.x) =
        ap bag_at (sym are.1 ∙ ap (flat_map (λ p. p)) (last.parted ∙ ap (λ ps. last.before ++ last.x ∷ ps) nothing)
        ∙ whole_at last.before last.x [] ∙ ap (λ ts. front ++ ts) (append-nil last.x)) ∙ bag_at-append front last.x in
        subst (λ b. AreOver by calls b new)
        (moved before (bag_at front) (bag_at last.x) ∙ ap (λ b. plus b before) (sym whole))
        (joins (plus (bag_at front) before) (bag_at last.x) over last.here)

  -- ---- a piece that has no groups

  pub piece_undefined : (before : Bag) (tuples : List Tuple) (front back : List (Result Groups EvalFault))
      (fault : EvalFault) (new : Groups) → ArePieces by calls tuples (front ++ Err fault ∷ back)
      → TakesIn by calls (rows_in tuples) before (Err fault) new
  piece_undefined before tuples front back OutOfMemory new are = tt
  piece_undefined before tuples front back NumberOutOfRange new are = λ more.
      let there = at (GroupsPiece by calls) are.0 front (Err NumberOutOfRange) back are.2 in
      let first = flat_map (λ p. p) there.before in
      let last = flat_map (λ p. p) there.behind in
      let rest = plus (bag_of more) (plus (plus (bag_at first) (bag_at last)) before) in
      let whole : bag_at tuples ≡ plus (bag_at first) (plus (bag_at there.x) (bag_at last)) =
      ap bag_at (sym are.1 ∙ ap (flat_map (λ p. p)) there.parted ∙ whole_at there.before there.x there.behind)
      ∙ bag_at-append first (there.x ++ last) ∙ ap (plus (bag_at first)) (bag_at-append there.x last) in
      ap (grouped by calls) (ap (λ b. plus (bag_of more) (plus b before)) whole
      ∙ apart (bag_of more) (bag_at first) (bag_at there.x) (bag_at last) before
      ∙ ap (λ b. plus b (bag_at there.x)) (sym (bag_of-rows_of rest)))
      ∙ there.here (rows_of rest)
