-- Partitions by rising numbers.
--     rise_by_steps   numbers rise where each is below the next one
--     rise_at         a partition in front of another has the lower number
--     lower_next      what is lower than a partition is lower than the next one
--     stands_told     whether a number stands in a list is told by the place where it would stand
--     none_behind     and none has it where that place is the end
use Rattle.std.specs.Prelude.{◌≡◌, ℕ, zero, suc, ◌+◌, ◌<◌, ◌≤◌, Bool, true, false, List, [], ◌∷◌, length}
use Rattle.std.proofs.Common.{arith, refl, sym, ap, ◌∙◌, get_or, nat_eq}
use Rattle.std.proofs.lemmas.Bool.{ne_eqb}
use Rattle.std.proofs.lemmas.Bool.Decides.{nat_tests}
use Rattle.std.proofs.lemmas.List.{get_or_default}
use Rattle.wh_filed.specs.Filed.{Filed, filed_at}
use denote.Ref.{Bor}
use Rattle.wh_maintenance.specs.Parts.{has}
use Rattle.wh_delta.specs.Moved.{same_number, NumbersRise, LowerBefore, NoneLowerAt}
use Rattle.wh_delta.proofs.Places.{has_there, both_false}

abbrev pub number_at : List (Bor Filed) → ℕ → Bor Filed → ℕ
number_at fs k d = (get_or fs k d).now.partition.number

-- up to a place, each number is below the next one
abbrev pub StepsUp : List (Bor Filed) → ℕ → Type 0
StepsUp fs n = (k : ℕ) (d : Bor Filed) → suc k < n → number_at fs k d < number_at fs (suc k) d

rise_from : (least : ℕ) (f : Bor Filed) (fs : List (Bor Filed)) → least ≤ f.now.partition.number
    → StepsUp (f ∷ fs) (length (f ∷ fs)) → NumbersRise least (filed_at (f ∷ fs))
rise_from least f [] low steps = (low, tt)
rise_from least f (g ∷ fs) low steps =
    let next = steps zero f (omega arith) in (
      low,
      rise_from (f.now.partition.number + 1) g fs (omega (arith, next))
          (λ k d below. steps (suc k) d (omega (arith, below))),
    )

pub rise_by_steps : (fs : List (Bor Filed)) → StepsUp fs (length fs) → NumbersRise 0 (filed_at fs)
rise_by_steps [] steps = tt
rise_by_steps (f ∷ fs) steps = rise_from 0 f fs (omega arith) steps

least_at : (least : ℕ) (fs : List (Bor Filed)) (k : ℕ) (d : Bor Filed) → NumbersRise least (filed_at fs) → k < length fs
    → least ≤ number_at fs k d
least_at least [] k d rise within = absurd (omega arith)
least_at least (f ∷ fs) zero d rise within = rise.0
least_at least (f ∷ fs) (suc k) d rise within =
    let rest = least_at (f.now.partition.number + 1) fs k d rise.1 (omega arith) in
    omega (arith, rise.0, rest)

pub rise_at : (least : ℕ) (fs : List (Bor Filed)) (j k : ℕ) (d e : Bor Filed) → NumbersRise least (filed_at fs) → j < k
    → k < length fs → number_at fs j d < number_at fs k e
rise_at least [] j k d e rise order within = absurd (omega arith)
rise_at least (f ∷ fs) zero zero d e rise order within = absurd (omega arith)
rise_at least (f ∷ fs) zero (suc k) d e rise order within =
    let rest = least_at (f.now.partition.number + 1) fs k e rise.1 (omega arith) in
    omega (arith, rest)
rise_at least (f ∷ fs) (suc j) zero d e rise order within = absurd (omega arith)
rise_at least (f ∷ fs) (suc j) (suc k) d e rise order within =
    rise_at (f.now.partition.number + 1) fs j k d e rise.1 (omega arith) (omega arith)

pub lower_next : (some others : List (Bor Filed)) (i near : ℕ) (f d : Bor Filed) → NumbersRise 0 (filed_at some)
    → f ≡ get_or some i f → i + 1 < length some → LowerBefore f.now others near
    → LowerBefore (get_or some (i + 1) d).now others near
lower_next some others i near f d rise at within front = λ k e below.
    let low = front k e below in
    let up = rise_at 0 some i (i + 1) f d rise (omega arith) within in
    let is : number_at some i f ≡ f.now.partition.number = ap (λ g. g.now.partition.number) (sym at) in
    omega (arith, low, up, is)

-- ---- a number sought where it would stand

none_below : (least : ℕ) (fs : List (Bor Filed)) (f : Filed) → NumbersRise least (filed_at fs)
    → f.partition.number < least → has same_number (filed_at fs) f ≡ false
none_below least [] f rise low = refl
none_below least (x ∷ xs) f rise low =
    both_false (same_number f x.now) (has same_number (filed_at xs) f)
    (ne_eqb f.partition.number x.now.partition.number (λ same. omega (arith, low, rise.0, same)))
    (none_below (x.now.partition.number + 1) xs f rise.1 (omega (arith, low, rise.0)))

none_at : (least : ℕ) (fs : List (Bor Filed)) (f : Filed) (place : ℕ) → NumbersRise least (filed_at fs)
    → LowerBefore f fs place → ((d : Bor Filed) → place < length fs → f.partition.number < number_at fs place d)
    → has same_number (filed_at fs) f ≡ false
none_at least [] f place rise front behind = refl
none_at least (x ∷ xs) f zero rise front behind =
    let above = behind x (omega arith) in
    both_false (same_number f x.now) (has same_number (filed_at xs) f)
    (ne_eqb f.partition.number x.now.partition.number (λ same. omega (arith, above, same)))
    (none_below (x.now.partition.number + 1) xs f rise.1 (omega (arith, above)))
none_at least (x ∷ xs) f (suc place) rise front behind =
    let low = front zero x (omega arith) in
    both_false (same_number f x.now) (has same_number (filed_at xs) f)
    (ne_eqb f.partition.number x.now.partition.number (λ same. omega (arith, low, same)))
    (none_at (x.now.partition.number + 1) xs f place rise.1 (λ k d below. front (suc k) d (omega arith))
    (λ d within. behind d (omega arith)))

above_other : (n m : ℕ) → n ≤ m → nat_eq n m ≡ false → n < m
above_other n m high other = grind (arith, nat_tests)

pub stands_told : (fs : List (Bor Filed)) (f : Filed) (place : ℕ) (g : Bor Filed) → NumbersRise 0 (filed_at fs)
    → LowerBefore f fs place → NoneLowerAt f fs place → place < length fs → g ≡ get_or fs place g
    → same_number f g.now ≡ has same_number (filed_at fs) f
stands_told fs f place g rise front behind within at = by_test (same_number f g.now) refl
  where
    by_test : (t : Bool) → same_number f g.now ≡ t → t ≡ has same_number (filed_at fs) f
    by_test true same = sym (has_there fs f place g within at same)
    by_test false other = sym (none_at 0 fs f place rise front (λ d inside.
        above_other f.partition.number (number_at fs place d) (behind d inside)
        (ap (λ h. same_number f h.now) (sym (at ∙ get_or_default fs place g d within)) ∙ other)))

pub none_behind : (fs : List (Bor Filed)) (f : Filed) (place : ℕ) → NumbersRise 0 (filed_at fs)
    → LowerBefore f fs place → length fs ≤ place → has same_number (filed_at fs) f ≡ false
none_behind fs f place rise front end = none_at 0 fs f place rise front (λ d inside. absurd (omega (arith, end, inside)))
