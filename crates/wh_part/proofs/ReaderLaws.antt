-- The two laws of a reader: what is read is spelled so, and what is spelled so is read.
--     Reads                                            both
--     reads_then, reads_where, reads_as, reads_list    of readers from readers
--     reads_number, reads_text                         of fields
use Rattle.std.proofs.Common.{◌≡◌, ℕ, zero, suc, ◌+◌, ◌^◌, ◌<◌, ◌≤◌, Bool, true, false, cond, ltb, leb, ◌&&◌, List, []}
use Rattle.std.proofs.Common.{◌∷◌, ◌++◌, length, get_or, take, drop, Option, Some, None, refl, sym, ap, subst, ◌∙◌}
use Rattle.std.proofs.Common.{append_assoc, arith, inl, inr}
use Rattle.std.specs.List.{flat_map, AllByRecursion}
use Rattle.std.specs.Int.{Width, w32, w64, byte_len, from_be_bytes, to_be_bytes}
use Rattle.std.proofs.lemmas.Option.{same_Some}
use Rattle.std.proofs.lemmas.Bool.{and_parts, cases_lt, ltb-false, le-ltb, le-leb, leb-true}
use Rattle.std.proofs.lemmas.Str.{IsUtf8-from_is_utf8, is_utf8-from_IsUtf8}
use Rattle.std.specs.Str.{is_utf8}
use Rattle.wh_value.specs.Value.{IsText}
use Rattle.wh_frame.specs.Spelling.{text_bytes}
use Rattle.std.proofs.lemmas.List.{take_at, drop_at, take-append-drop, length-append, length-take, get_or-drop}
use Rattle.std.proofs.lemmas.List.{get_or-take, get_or_past}
use Rattle.std.proofs.lemmas.List.Concat.{flat_map-cons}
use Rattle.std.proofs.lemmas.Nat.{be_bytes_4, be_bytes_8, from_be_bytes-to_be_bytes_4, from_be_bytes-to_be_bytes_8}
use Rattle.wh_part.specs.Reading.{Reader, ◌>>=◌, then_at, where_at, as_at, items_at, list_at, byte_at, number_at}
use Rattle.wh_part.specs.Reading.{bytes_at, is_text, text_at}

-- each is a byte
abbrev pub AreBytes : List ℕ → Type 0
AreBytes bytes = (i : ℕ) → get_or bytes i 0 < 256

pub record Reads {X : Type 0} (spelled : X → List ℕ) (good : X → Type 0) (reader : Reader X) : Type 0 where
  pub takes : (bytes : List ℕ) (x : X) (rest : List ℕ) → AreBytes bytes → reader bytes ≡ Some (x, rest)
      → (bytes ≡ spelled x ++ rest) × good x
  pub again : (x : X) (rest : List ℕ) → good x → reader (spelled x ++ rest) ≡ Some (x, rest)

-- ---- bytes

AreBytes-drop : (n : ℕ) (bytes : List ℕ) → AreBytes bytes → AreBytes (drop n bytes)
AreBytes-drop n bytes h i = rw get_or-drop (h (n + i))

AreBytes-take : (n : ℕ) (bytes : List ℕ) → AreBytes bytes → AreBytes (take n bytes)
AreBytes-take n bytes h i =
    elim (cases_lt i n) [
      | inl lt ↦ rw (get_or-take n bytes i 0 lt) (h i)
      | inr le ↦ rw (get_or_past (take n bytes) i 0 (omega (arith, length-take n bytes))) (omega arith)
    ]

pub AreBytes-behind : (bytes front rest : List ℕ) → AreBytes bytes → bytes ≡ front ++ rest → AreBytes rest
AreBytes-behind bytes front rest h e =
    subst AreBytes (drop_at front rest (length front) refl)
    (AreBytes-drop (length front) (front ++ rest) (subst AreBytes e h))

-- ---- options

pub bind_some : {A B : Type 0} (o : Option A) (f : A → Option B) (y : B) → (o >>= f) ≡ Some y
    → (x : A) × (o ≡ Some x) × (f x ≡ Some y)
bind_some None f y e = absurd cc
bind_some (Some x) f y e = (x, refl, e)

pub cond_same : {A : Type 0} (b : Bool) (x y : A) → cond b (Some x) None ≡ Some y → (b ≡ true) × (x ≡ y)
cond_same true x y e = (refl, cc)
cond_same false x y e = absurd cc

cond_other : {A : Type 0} (b : Bool) (x y : A) → cond b None (Some x) ≡ Some y → (b ≡ false) × (x ≡ y)
cond_other true x y e = absurd cc
cond_other false x y e = (refl, cc)

-- ---- readers from readers

pub reads_then : {X Y : Type 0} {s : X → List ℕ} {g : X → Type 0} {first : Reader X} {t : X → Y → List ℕ}
    {h : X → Y → Type 0} {second : X → Reader Y}
    → Reads s g first → ((x : X) → g x → Reads (t x) (h x) (second x))
    → Reads {X = X × Y} (λ p. s p.0 ++ t p.0 p.1) (λ p. g p.0 × h p.0 p.1) (then_at first second)
reads_then {X} {Y} {s} {g} {first} {t} {h} {second} r q = record {
  takes = λ bytes p rest fits e.
      let a = bind_some (first bytes) (λ x. second x.0 x.1 >>= λ y. Some ((x.0, y.0), y.1)) (p, rest) e in
      let b = bind_some (second a.0.0 a.0.1) (λ y. Some ((a.0.0, y.0), y.1)) (p, rest) a.2 in
      let one = r.takes bytes a.0.0 a.0.1 fits a.1 in
      let two = (q a.0.0 one.1).takes a.0.1 b.0.0 b.0.1 (AreBytes-behind bytes (s a.0.0) a.0.1 fits one.0) b.1 in
      let whole : bytes ≡ (s a.0.0 ++ t a.0.0 b.0.0) ++ b.0.1 =
      one.0 ∙ ap (λ (l : List ℕ). s a.0.0 ++ l) two.0 ∙ sym (append_assoc (s a.0.0) (t a.0.0 b.0.0) b.0.1) in
      subst (λ (z : (X × Y) × List ℕ). (bytes ≡ (s z.0.0 ++ t z.0.0 z.0.1) ++ z.1) × (g z.0.0 × h z.0.0 z.0.1))
      (same_Some ((a.0.0, b.0.0), b.0.1) (p, rest) b.2) (whole, (one.1, two.1));
  again = λ p rest good.
      ap (then_at first second) (append_assoc (s p.0) (t p.0 p.1) rest)
      ∙ ap (λ (o : Option (X × List ℕ)). o >>= λ x. second x.0 x.1 >>= λ y. Some ((x.0, y.0), y.1))
      (r.again p.0 (t p.0 p.1 ++ rest) good.0)
      ∙ ap (λ (o : Option (Y × List ℕ)). o >>= λ y. Some ((p.0, y.0), y.1)) ((q p.0 good.0).again p.1 rest good.1);
}

pub reads_where : {X : Type 0} {s : X → List ℕ} {g : X → Type 0} {reader : Reader X} (test : X → Bool)
    → Reads s g reader → Reads s (λ x. g x × (test x ≡ true)) (where_at test reader)
reads_where {X} {s} {g} {reader} test r = record {
  takes = λ bytes x rest fits e.
      let a = bind_some (reader bytes) (λ x. cond (test x.0) (Some x) None) (x, rest) e in
      let c = cond_same (test a.0.0) a.0 (x, rest) a.2 in
      let one = r.takes bytes a.0.0 a.0.1 fits a.1 in
      subst (λ (z : X × List ℕ). (bytes ≡ s z.0 ++ z.1) × (g z.0 × (test z.0 ≡ true))) c.1 (one.0, (one.1, c.0));
  again = λ x rest good.
      ap (λ (o : Option (X × List ℕ)). o >>= λ x. cond (test x.0) (Some x) None) (r.again x rest good.0)
      ∙ ap (λ (b : Bool). cond b (Some (x, rest)) None) good.1;
}

-- the same values, seen otherwise: there and back, with the same spelling
pub reads_as : {X Y : Type 0} {s : X → List ℕ} {g : X → Type 0} {reader : Reader X} (t : Y → List ℕ) (h : Y → Type 0)
    (f : X → Y) (back : Y → X)
    → ((x : X) → g x → (s x ≡ t (f x)) × h (f x)) → ((y : Y) → h y → (s (back y) ≡ t y) × g (back y) × (f (back y) ≡ y))
    → Reads s g reader
    → Reads t h (as_at f reader)
reads_as {X} {Y} {s} {g} {reader} t h f back there again r = record {
  takes = λ bytes y rest fits e.
      let a = bind_some (reader bytes) (λ x. Some (f x.0, x.1)) (y, rest) e in
      let one = r.takes bytes a.0.0 a.0.1 fits a.1 in
      let other = there a.0.0 one.1 in
      subst (λ (z : Y × List ℕ). (bytes ≡ t z.0 ++ z.1) × h z.0) (same_Some (f a.0.0, a.0.1) (y, rest) a.2)
      (one.0 ∙ ap (λ (l : List ℕ). l ++ a.0.1) other.0, other.1);
  again = λ y rest good.
      let b = again y good in
      ap (as_at f reader) (ap (λ (l : List ℕ). l ++ rest) (sym b.0))
      ∙ ap (λ (o : Option (X × List ℕ)). o >>= λ x. Some (f x.0, x.1)) (r.again (back y) rest b.1)
      ∙ ap (λ (y : Y). Some (y, rest)) b.2;
}

-- a reader that reads alike, and what is good said otherwise
pub reads_same : {X : Type 0} {s : X → List ℕ} {g : X → Type 0} {reader : Reader X} (t : X → List ℕ)
    (h : X → Type 0) (other : Reader X)
    → ((bytes : List ℕ) → other bytes ≡ reader bytes) → ((x : X) → s x ≡ t x) → ((x : X) → g x → h x)
    → ((x : X) → h x → g x) → Reads s g reader
    → Reads t h other
reads_same {X} {s} {g} {reader} t h other alike spelled there back r = record {
  takes = λ bytes x rest fits e.
      let one = r.takes bytes x rest fits (sym (alike bytes) ∙ e) in
      (one.0 ∙ ap (λ (l : List ℕ). l ++ rest) (spelled x), there x one.1);
  again = λ x rest good.
      ap (λ (l : List ℕ). other (l ++ rest)) (sym (spelled x)) ∙ alike (s x ++ rest) ∙ r.again x rest (back x good);
}

items_take : {X : Type 0} {s : X → List ℕ} {g : X → Type 0} {reader : Reader X} → Reads s g reader
    → (n : ℕ) (bytes : List ℕ) (xs : List X) (rest : List ℕ) → AreBytes bytes
    → items_at reader n bytes ≡ Some (xs, rest)
    → (bytes ≡ flat_map s xs ++ rest) × ((length xs ≡ n) × AllByRecursion g xs)
unfolding items_at
items_take {X} {s} {g} {reader} r zero bytes xs rest fits e =
    subst (λ (z : List X × List ℕ). (bytes ≡ flat_map s z.0 ++ z.1) × ((length z.0 ≡ 0) × AllByRecursion g z.0))
    (same_Some ([], bytes) (xs, rest) e) (refl, (refl, tt))
items_take {X} {s} {g} {reader} r (suc n) bytes xs rest fits e =
    let a = bind_some (reader bytes) (λ x. items_at reader n x.1 >>= λ xs. Some (x.0 ∷ xs.0, xs.1)) (xs, rest) e in
    let b = bind_some (items_at reader n a.0.1) (λ xs. Some (a.0.0 ∷ xs.0, xs.1)) (xs, rest) a.2 in
    let one = r.takes bytes a.0.0 a.0.1 fits a.1 in
    let two = items_take r n a.0.1 b.0.0 b.0.1 (AreBytes-behind bytes (s a.0.0) a.0.1 fits one.0) b.1 in
    let whole : bytes ≡ flat_map s (a.0.0 ∷ b.0.0) ++ b.0.1 =
    one.0 ∙ ap (λ (l : List ℕ). s a.0.0 ++ l) two.0 ∙ sym (append_assoc (s a.0.0) (flat_map s b.0.0) b.0.1)
    ∙ ap (λ (l : List ℕ). l ++ b.0.1) (sym (flat_map-cons s a.0.0 b.0.0)) in
    subst (λ (z : List X × List ℕ). (bytes ≡ flat_map s z.0 ++ z.1) × ((length z.0 ≡ suc n) × AllByRecursion g z.0))
    (same_Some (a.0.0 ∷ b.0.0, b.0.1) (xs, rest) b.2)
    (whole, (ap suc two.1.0, (one.1, two.1.1)))

items_again : {X : Type 0} {s : X → List ℕ} {g : X → Type 0} {reader : Reader X} → Reads s g reader
    → (xs : List X) (rest : List ℕ) → AllByRecursion g xs
    → items_at reader (length xs) (flat_map s xs ++ rest) ≡ Some (xs, rest)
unfolding items_at
items_again r [] rest good = refl
items_again {X} {s} {g} {reader} r (x ∷ xs) rest good =
    let regrouped : flat_map s (x ∷ xs) ++ rest ≡ s x ++ (flat_map s xs ++ rest) =
    ap (λ (l : List ℕ). l ++ rest) (flat_map-cons s x xs) ∙ append_assoc (s x) (flat_map s xs) rest in
    ap (items_at reader (suc (length xs))) regrouped
    ∙ ap (λ (o : Option (X × List ℕ)). o >>= λ x. items_at reader (length xs) x.1 >>= λ xs. Some (x.0 ∷ xs.0, xs.1))
    (r.again x (flat_map s xs ++ rest) good.0)
    ∙ ap (λ (o : Option (List X × List ℕ)). o >>= λ y. Some (x ∷ y.0, y.1)) (items_again r xs rest good.1)

pub reads_items : {X : Type 0} {s : X → List ℕ} {g : X → Type 0} {reader : Reader X} → Reads s g reader → (n : ℕ)
    → Reads (flat_map s) (λ xs. (length xs ≡ n) × AllByRecursion g xs) (items_at reader n)
reads_items {X} {s} {g} {reader} r n = record {
  takes = λ bytes xs rest fits e. items_take r n bytes xs rest fits e;
  again = λ xs rest good. ap (λ (k : ℕ). items_at reader k (flat_map s xs ++ rest)) (sym good.0)
      ∙ items_again r xs rest good.1;
}

-- a count and the items
pub reads_list : {X : Type 0} {s : X → List ℕ} {g : X → Type 0} {reader : Reader X} {t : ℕ → List ℕ}
    {h : ℕ → Type 0} {count : Reader ℕ}
    → Reads t h count → Reads s g reader
    → Reads (λ xs. t (length xs) ++ flat_map s xs) (λ xs. h (length xs) × AllByRecursion g xs) (list_at count reader)
reads_list {X} {s} {g} {reader} {t} {h} {count} c r =
    reads_as (λ xs. t (length xs) ++ flat_map s xs) (λ xs. h (length xs) × AllByRecursion g xs)
    (λ (p : ℕ × List X). p.1) (λ xs. (length xs, xs))
    (λ p good. (ap (λ (n : ℕ). t n ++ flat_map s p.1) (sym good.1.0), (subst h (sym good.1.0) good.0, good.1.1)))
    (λ xs good. (refl, (good.0, (refl, good.1)), refl))
    (reads_then c (λ n _. reads_items r n))

-- ---- fields

pub record IsWide (w : Width) (limit : ℕ) : Type 0 where
  pub len : (n : ℕ) → length (to_be_bytes w n) ≡ byte_len w
  pub back : (bytes : List ℕ) → length bytes ≡ byte_len w → AreBytes bytes
      → to_be_bytes w (from_be_bytes w bytes) ≡ bytes
  pub again : (n : ℕ) → n < limit → from_be_bytes w (to_be_bytes w n) ≡ n
  pub below : (bytes : List ℕ) → AreBytes bytes → from_be_bytes w bytes < limit

pub wide32 : IsWide w32 (2 ^ 32)
wide32 = record {
  len = λ n. refl;
  back = λ bytes len fits. be_bytes_4 bytes _ len fits refl;
  again = λ n lt. from_be_bytes-to_be_bytes_4 n lt;
  below = λ bytes fits. omega (arith, fits 0, fits 1, fits 2, fits 3);
}

pub wide64 : IsWide w64 (2 ^ 64)
wide64 = record {
  len = λ n. refl;
  back = λ bytes len fits. be_bytes_8 bytes _ len fits refl;
  again = λ n lt. from_be_bytes-to_be_bytes_8 n lt;
  below = λ bytes fits. omega (arith, fits 0, fits 1, fits 2, fits 3, fits 4, fits 5, fits 6, fits 7);
}

pub reads_number : {w : Width} {limit : ℕ} → IsWide w limit → Reads (to_be_bytes w) (λ n. n < limit) (number_at w)
reads_number {w} {limit} wide = record {
  takes = λ bytes n rest fits e.
      let c = cond_other (ltb (length bytes) (byte_len w))
      (from_be_bytes w (take (byte_len w) bytes), drop (byte_len w) bytes) (n, rest) e in
      let long : byte_len w ≤ length bytes = ltb-false _ _ c.0 in
      let front : to_be_bytes w (from_be_bytes w (take (byte_len w) bytes)) ≡ take (byte_len w) bytes =
      wide.back (take (byte_len w) bytes) (omega (arith, length-take (byte_len w) bytes))
      (AreBytes-take (byte_len w) bytes fits) in
      let whole : bytes ≡ to_be_bytes w (from_be_bytes w (take (byte_len w) bytes)) ++ drop (byte_len w) bytes =
      sym (take-append-drop (byte_len w) bytes) ∙ ap (λ (l : List ℕ). l ++ drop (byte_len w) bytes) (sym front) in
      subst (λ (z : ℕ × List ℕ). (bytes ≡ to_be_bytes w z.0 ++ z.1) × (z.0 < limit)) c.1
      (whole, wide.below (take (byte_len w) bytes) (AreBytes-take (byte_len w) bytes fits));
  again = λ n rest lt.
      let len = wide.len n in
      let long : ltb (length (to_be_bytes w n ++ rest)) (byte_len w) ≡ false =
      le-ltb _ _ (omega (arith, length-append (to_be_bytes w n) rest)) in
      rw (
        long,
        take_at (to_be_bytes w n) rest (byte_len w) len,
        drop_at (to_be_bytes w n) rest (byte_len w) len,
        wide.again n lt,
      ) refl;
}

pub reads_byte : Reads (λ b. b ∷ []) (λ b. b < 256) byte_at
reads_byte = record { takes = byte_takes; again = λ b rest good. refl }
  where
    byte_takes : (bytes : List ℕ) (b : ℕ) (rest : List ℕ) → AreBytes bytes → byte_at bytes ≡ Some (b, rest)
        → (bytes ≡ b ∷ [] ++ rest) × (b < 256)
    byte_takes [] b rest fits e = absurd cc
    byte_takes (a ∷ bytes) b rest fits e =
        subst (λ (z : ℕ × List ℕ). (a ∷ bytes ≡ z.0 ∷ [] ++ z.1) × (z.0 < 256)) (same_Some (a, bytes) (b, rest) e)
        (refl, fits 0)

pub reads_bytes : (n : ℕ) → Reads (λ bytes. bytes) (λ bytes. length bytes ≡ n) (bytes_at n)
reads_bytes n = record {
  takes = λ bytes front rest fits e.
      let c = cond_other (ltb (length bytes) n) (take n bytes, drop n bytes) (front, rest) e in
      let long : n ≤ length bytes = ltb-false _ _ c.0 in
      let len : length (take n bytes) ≡ n = omega (arith, length-take n bytes) in
      subst (λ (z : List ℕ × List ℕ). (bytes ≡ z.0 ++ z.1) × (length z.0 ≡ n)) c.1
      (sym (take-append-drop n bytes), len);
  again = λ front rest len.
      let long : ltb (length (front ++ rest)) n ≡ false = le-ltb _ _ (omega (arith, length-append front rest)) in
      rw (long, take_at front rest n len, drop_at front rest n len) refl;
}

-- ---- texts

pub text_passes : (bytes : List ℕ) → IsText bytes → is_text bytes ≡ true
text_passes bytes t = rw (is_utf8-from_IsUtf8 bytes t.utf8, le-leb (length bytes) 65536 t.short) refl

pub passes_text : (bytes : List ℕ) → is_text bytes ≡ true → IsText bytes
passes_text bytes e =
    let both = and_parts (is_utf8 bytes) (leb (length bytes) 65536) e in
    record { utf8 = IsUtf8-from_is_utf8 bytes both.0; short = leb-true (length bytes) 65536 both.1 }

pub no_text : (bytes : List ℕ) → (IsText bytes → ⊥) → is_text bytes ≡ false
no_text bytes h = fails (is_text bytes) (passes_text bytes) h
  where
    fails : (b : Bool) → (b ≡ true → IsText bytes) → (IsText bytes → ⊥) → b ≡ false
    fails true p h = absurd (h (p refl))
    fails false p h = refl

pub reads_text : Reads text_bytes IsText text_at
unfolding text_at
reads_text =
    reads_same text_bytes IsText text_at (λ bytes. refl) (λ x. refl) (λ x good. passes_text x good.1)
    (λ x good. (omega (arith, good.short), text_passes x good))
    (reads_where is_text
    (reads_as text_bytes (λ bytes. length bytes < 2 ^ 32) (λ (p : ℕ × List ℕ). p.1) (λ bytes. (length bytes, bytes))
    (λ p good. (ap (λ (n : ℕ). to_be_bytes w32 n ++ p.1) (sym good.1), rw good.1 good.0))
    (λ bytes good. (refl, (good, refl), refl))
    (reads_then (reads_number wide32) (λ n _. reads_bytes n))))
