-- The bytes ahead, behind a read.
use Rattle.std.proofs.Common.{◌≡◌, ℕ, zero, suc, ◌+◌, ◌-◌, ◌<◌, ◌≤◌, true, List, [], ◌∷◌, ◌++◌, length, take, drop}
use Rattle.std.proofs.Common.{Option, Some, None, option_map, ltb, MatchBool, refl, sym, ap, ◌∙◌, arith, lt-ltb}
use Rattle.std.proofs.Common.{length-append, length-take}
use Rattle.std.proofs.lemmas.List.{drop-drop, drop-take}
use Rattle.wh_text.specs.Turn.{ahead_and}
use Rattle.wh_text.specs.Ahead.{AheadState, Fills, AtEnd, total}

-- nothing is ahead where the places meet
pub none_ahead : (items : List ℕ) (from to : ℕ) → to ≤ from → take (to - from) (drop from items) ≡ []
none_ahead items from to met =
    let none : to - from ≡ 0 = omega arith in rw none refl

-- what an `Ahead` has behind a read of n bytes
abbrev pub behind_read : ℕ → ℕ → List ℕ → AheadState
behind_read taken n items = record { bytes = take (n - 0) (drop 0 items); taken = taken + n }

same_bytes : (n : ℕ) (items read : List ℕ) (left_old left_new : Option (List ℕ)) → items ≡ read
    → left_old ≡ option_map (λ rest. take n read ++ rest) left_new
    → ahead_and (take (n - 0) (drop 0 items)) left_new ≡ ahead_and [] left_old
same_bytes n items read left_old None same taken = rw taken refl
same_bytes n items read left_old (Some rest) same taken =
    let all : n - 0 ≡ n = omega arith in rw (taken, same, all) refl

read_some : (old : AheadState) (taken n : ℕ) (items read : List ℕ) (left_old left_new : Option (List ℕ))
    → old.bytes ≡ [] → old.taken ≡ taken → items ≡ read → n ≤ length read → 0 < n
    → left_old ≡ option_map (λ rest. take n read ++ rest) left_new
    → Fills old (behind_read taken n items) left_old left_new
read_some old taken n items read left_old left_new none count same within some given =
    let counted : length (take (n - 0) (drop 0 items)) ≡ n =
    omega (arith, length-take (n - 0) (drop 0 items), ap length same) in
    record {
      some = omega (arith, counted);
      same = same_bytes n items read left_old left_new same given ∙ ap (λ bytes. ahead_and bytes left_old) (sym none);
      unused = omega (arith, counted, ap length none, count);
    }

ends_there : (left : Option (List ℕ)) → ((bytes : List ℕ) → left ≡ Some bytes → bytes ≡ []) → (ahead : List ℕ)
    → ahead ≡ [] → (script : List ℕ) → ahead_and ahead left ≡ Some script
    → script ≡ []
ends_there None end ahead none script is = absurd (cc)
ends_there (Some bytes) end ahead none script is =
    let here : bytes ≡ [] = end bytes refl in
    let whole : ahead ++ bytes ≡ script = cc in
    sym whole ∙ ap (λ xs. xs ++ bytes) none ∙ here

read_none : (old : AheadState) (taken n : ℕ) (items read : List ℕ) (left_old left_new : Option (List ℕ))
    → old.bytes ≡ [] → old.taken ≡ taken → items ≡ read → n ≤ length read → n ≡ 0
    → left_old ≡ option_map (λ rest. take n read ++ rest) left_new
    → ((bytes : List ℕ) → left_old ≡ Some bytes → bytes ≡ [])
    → AtEnd old (behind_read taken n items) left_old left_new
read_none old taken n items read left_old left_new none count same within nothing given end =
    let counted : length (take (n - 0) (drop 0 items)) ≡ n =
    omega (arith, length-take (n - 0) (drop 0 items), ap length same) in
    record {
      none = ends_there left_old end old.bytes none;
      same = same_bytes n items read left_old left_new same given ∙ ap (λ bytes. ahead_and bytes left_old) (sym none);
      unused = omega (arith, counted, ap length none, count, nothing);
    }

-- a read gives bytes, or there are none
pub read_behind : (old : AheadState) (taken n : ℕ) (items read : List ℕ) (left_old left_new : Option (List ℕ))
    → old.bytes ≡ [] → old.taken ≡ taken → items ≡ read → n ≤ length read
    → left_old ≡ option_map (λ rest. take n read ++ rest) left_new
    → (n ≡ 0 → (bytes : List ℕ) → left_old ≡ Some bytes → bytes ≡ [])
    → MatchBool (ltb 0 n) (Fills old (behind_read taken n items) left_old left_new)
    (AtEnd old (behind_read taken n items) left_old left_new)
read_behind old taken zero items read left_old left_new none count same within given end =
    read_none old taken zero items read left_old left_new none count same within refl given (end refl)
read_behind old taken (suc n) items read left_old left_new none count same within given end =
    let some : ltb 0 (suc n) ≡ true = lt-ltb 0 (suc n) (omega arith) in
    rw some (read_some old taken (suc n) items read left_old left_new none count same within (omega arith) given)

-- what the source lost was counted
pub read_counts : (old : AheadState) (taken n : ℕ) (items read : List ℕ) (left_old left_new : Option (List ℕ))
    → old.taken ≡ taken → n ≤ length read → left_old ≡ option_map (λ rest. take n read ++ rest) left_new
    → total (behind_read taken n items) left_new ≡ total old left_old
read_counts old taken n items read left_old None count within given = rw given refl
read_counts old taken n items read left_old (Some rest) count within given =
    let sizes : length rest + (taken + n) ≡ length (take n read ++ rest) + old.taken
    = omega (arith, length-append (take n read) rest, length-take n read, count) in
    rw given (ap Some sizes)

-- the first of the bytes ahead is the first that is still to be read
pub first_ahead : (b : ℕ) (bytes : List ℕ) (left : Option (List ℕ))
    → ahead_and (b ∷ bytes) left ≡ option_map (λ rest. b ∷ rest) (ahead_and bytes left)
first_ahead b bytes None = refl
first_ahead b bytes (Some rest) = refl

-- so many of the bytes ahead are used
pub used_ahead : (items bytes : List ℕ) (from to count : ℕ) → bytes ≡ take (to - from) (drop from items)
    → count ≤ length bytes
    → take (to - (from + count)) (drop (from + count) items) ≡ drop count bytes
used_ahead items bytes from to count same within =
    let some : count ≤ to - from = omega (arith, within, ap length same, length-take (to - from) (drop from items)) in
    let split : to - from ≡ count + (to - (from + count)) = omega (arith, some) in
    ap (λ xs. take (to - (from + count)) xs) (sym (drop-drop count from items))
    ∙ sym (drop-take count (to - (from + count)) (drop from items))
    ∙ ap (λ n. drop count (take n (drop from items))) (sym split)
    ∙ ap (λ xs. drop count xs) (sym same)
