-- Readers of what changes are made of.
--     byte_taken       a byte that stands for something
--     reads_record     what is read one after the other, as one thing
--     Rising           a list of numbers that rise, each below a bound
use Rattle.std.proofs.Common.{◌≡◌, ◌↔◌, ℕ, ◌+◌, ◌^◌, ◌<◌, ◌≤◌, true, leb, List, [], ◌∷◌, ◌++◌, length, Option, Some}
use Rattle.std.proofs.Common.{refl, ap, subst, ◌∙◌, append_assoc}
use Rattle.std.specs.List.{AllByRecursion}
use Rattle.std.specs.Int.{w32}
use Rattle.std.proofs.lemmas.Bool.{and_parts, leb-true, le-leb}
use Rattle.std.proofs.lemmas.Option.{same_Some}
use Rattle.wh_frame.specs.Spelling.{list_bytes}
use Rattle.wh_state.specs.Spelling.{NumbersRiseFrom, IdsRiseFrom}
use Rattle.wh_part.specs.Reading.{Reader, as_at, where_at, list_at, number_at}
use Rattle.wh_part.proofs.ReaderLaws.{Reads, reads_where, reads_as, reads_same, reads_list, wide32, reads_number}
use Rattle.wh_record.specs.Decoding.{numbers_rise}

-- what a byte stands for is spelled by that byte
pub byte_taken : {X : Type 0} (byte_of : X → ℕ) (found x : X) (bytes rest : List ℕ)
    → ◌≡◌ {A = Option (X × List ℕ)} (Some (found, bytes)) (Some (x, rest))
    → (byte_of found ∷ bytes ≡ byte_of x ∷ [] ++ rest) × Unit {0}
byte_taken {X} byte_of found x bytes rest e =
    subst (λ (z : X × List ℕ). (byte_of found ∷ bytes ≡ byte_of z.0 ∷ [] ++ z.1) × Unit {0})
    (same_Some (found, bytes) (x, rest) e) (refl, tt)

-- a record of what is read one after the other
pub reads_record : {X Y : Type 0} {s : X → List ℕ} {g : X → Type 0} {reader : Reader X} {f : X → Y} (t : Y → List ℕ)
    (h : Y → Type 0) (other : Reader Y) (back : Y → X)
    → ((bytes : List ℕ) → other bytes ≡ as_at f reader bytes) → ((y : Y) → f (back y) ≡ y)
    → ((x : X) → s x ≡ t (f x)) → ((x : X) → g x → h (f x)) → ((y : Y) → h y → g (back y))
    → Reads s g reader
    → Reads t h other
reads_record {f = f} t h other back alike same spelled there again r =
    reads_same t h other alike (λ y. refl) (λ y good. good) (λ y good. good)
    (reads_as t h f back (λ x good. (spelled x, there x good))
    (λ y good. (spelled (back y) ∙ ap t (same y), again y good, same y)) r)

pub four_grouped : (a b c d : List ℕ) → a ++ (b ++ (c ++ d)) ≡ a ++ b ++ c ++ d
four_grouped a b c d = simp append_assoc

pub five_grouped : (a b c d e : List ℕ) → a ++ (b ++ (c ++ (d ++ e))) ≡ a ++ b ++ c ++ d ++ e
five_grouped a b c d e = simp append_assoc

pub six_grouped : (a b c d e f : List ℕ) → a ++ (b ++ (c ++ (d ++ (e ++ f)))) ≡ a ++ b ++ c ++ d ++ e ++ f
six_grouped a b c d e f = simp append_assoc

-- ---- numbers that rise

-- a list of numbers below a bound that rise from a least one on, said by recursion
pub record Rising (most : ℕ) (RiseFrom : ℕ → List ℕ → Type 0) : Type 0 where
  pub none : (least : ℕ) → RiseFrom least []
  pub more : (least n : ℕ) (ns : List ℕ) → RiseFrom least (n ∷ ns) ↔ ((least ≤ n) × (n < most) × RiseFrom (n + 1) ns)

pub rising_numbers : Rising (2 ^ 64) NumbersRiseFrom
rising_numbers = record { none = λ least. tt; more = λ least n ns. (λ r. r, λ r. r) }

pub rising_ids : Rising (2 ^ 32) IdsRiseFrom
rising_ids = record { none = λ least. tt; more = λ least n ns. (λ r. r, λ r. r) }

module _ {most : ℕ} {RiseFrom : ℕ → List ℕ → Type 0} (r : Rising most RiseFrom) where
  -- those within the bound that pass the test are those that rise
  pub rising_is : (least : ℕ) (ns : List ℕ) → AllByRecursion (λ n. n < most) ns → numbers_rise least ns ≡ true
      → RiseFrom least ns
  rising_is least [] wide e = r.none least
  rising_is least (n ∷ ns) wide e =
      let both = and_parts (leb least n) (numbers_rise (n + 1) ns) e in
      (r.more least n ns).1 (leb-true least n both.0, wide.0, rising_is (n + 1) ns wide.1 both.1)

  is_rising : (least : ℕ) (ns : List ℕ) → RiseFrom least ns → numbers_rise least ns ≡ true
  is_rising least [] rises = refl
  is_rising least (n ∷ ns) rises =
      let parts = (r.more least n ns).0 rises in
      rw (le-leb least n parts.0) (is_rising (n + 1) ns parts.2)

  are_wide : (least : ℕ) (ns : List ℕ) → RiseFrom least ns → AllByRecursion (λ n. n < most) ns
  are_wide least [] rises = tt
  are_wide least (n ∷ ns) rises =
      let parts = (r.more least n ns).0 rises in
      (parts.1, are_wide (n + 1) ns parts.2)

  -- a count, and numbers that rise
  pub reads_rising : {s : ℕ → List ℕ} {reader : Reader ℕ} (other : Reader (List ℕ))
      → ((bytes : List ℕ) → other bytes ≡ where_at (numbers_rise 0) (list_at (number_at w32) reader) bytes)
      → Reads s (λ n. n < most) reader
      → Reads (list_bytes s) (λ ns. (length ns < 2 ^ 32) × RiseFrom 0 ns) other
  reads_rising {s} {reader} other alike number =
      reads_same (list_bytes s) (λ ns. (length ns < 2 ^ 32) × RiseFrom 0 ns) other
      alike (λ ns. refl)
      (λ ns good. (good.0.0, rising_is 0 ns good.0.1 good.1))
      (λ ns good. ((good.0, are_wide 0 ns good.1), is_rising 0 ns good.1))
      (reads_where (numbers_rise 0) (reads_list (reads_number wide32) number))
