-- Reading from the left, as functions on lists: a value and the bytes behind it, or None where nothing is spelled.
--     Gives                                          what a function of the code returned is what reading gives
--     byte_at, number_at, bytes_at, text_at          a field at the front
--     then_at, where_at, as_at, items_at, list_at    fields one after the other, tested, seen otherwise, and counted
use Rattle.std.specs.Prelude.{◌≡◌, ℕ, zero, suc, Bool, ◌&&◌, List, [], ◌∷◌, length, take, drop, Option, Some, None}
use Rattle.std.specs.Prelude.{Result, Ok, Err, nat_lt, nat_le, if◌then◌else◌}
use Rattle.std.specs.Str.{is_utf8}
use Rattle.std.specs.Int.{Width, w32, byte_len, from_be_bytes}
use Rattle.wh_part.specs.declared.fault.ReadError.{ReadError}
use Rattle.wh_part.specs.declared.fault.ReadError.TheVariants.{Memory, Malformed}

abbrev pub Reader : Type 0 → Type 0
Reader X = List ℕ → Option (X × List ℕ)

infixl 10 ◌>>=◌
abbrev pub ◌>>=◌ : {A B : Type 0} → Option A → (A → Option B) → Option B
None >>= f = None
(Some x) >>= f = f x

-- what was returned, seen by view, is what reading gives, unless memory ran out
abbrev pub Fails : {Y : Type 0} → ReadError → Option Y → Type 0
Fails Memory read = Unit {0}
Fails Malformed read = read ≡ None

abbrev pub Gives : {X Y : Type 0} → (X → Y) → Result X ReadError → Option Y → Type 0
Gives view (Ok x) read = read ≡ Some (view x)
Gives view (Err e) read = Fails e read

-- ---- readers from readers

-- two fields; the second may depend on the first
abbrev pub then_at : {X Y : Type 0} → Reader X → (X → Reader Y) → Reader (X × Y)
then_at first second bytes = first bytes >>= λ x. second x.0 x.1 >>= λ y. Some ((x.0, y.0), y.1)

-- nothing else than what passes the test
abbrev pub where_at : {X : Type 0} → (X → Bool) → Reader X → Reader X
where_at test reader bytes = reader bytes >>= λ x. if test x.0 then Some x else None

abbrev pub as_at : {X Y : Type 0} → (X → Y) → Reader X → Reader Y
as_at f reader bytes = reader bytes >>= λ x. Some (f x.0, x.1)

-- that many items
unfoldable pub items_at : {X : Type 0} → Reader X → ℕ → Reader (List X)
items_at reader zero bytes = Some ([], bytes)
items_at reader (suc n) bytes = reader bytes >>= λ x. items_at reader n x.1 >>= λ xs. Some (x.0 ∷ xs.0, xs.1)

-- a count, and that many items
abbrev pub list_at : {X : Type 0} → Reader ℕ → Reader X → Reader (List X)
list_at count reader = as_at (λ p. p.1) (then_at count (items_at reader))

-- ---- fields

abbrev pub byte_at : Reader ℕ
byte_at [] = None
byte_at (b ∷ bytes) = Some (b, bytes)

abbrev pub number_at : Width → Reader ℕ
number_at w bytes = if nat_lt (length bytes) (byte_len w) then None
    else Some (from_be_bytes w (take (byte_len w) bytes), drop (byte_len w) bytes)

abbrev pub bytes_at : ℕ → Reader (List ℕ)
bytes_at n bytes = if nat_lt (length bytes) n then None else Some (take n bytes, drop n bytes)

abbrev pub is_text : List ℕ → Bool
is_text bytes = is_utf8 bytes && nat_le (length bytes) 65536

-- the bytes themselves, if they are a text
abbrev pub made_text_of : List ℕ → Option (List ℕ)
made_text_of bytes = if is_text bytes then Some bytes else None

-- a length, and that many bytes, which have to be a text
unfoldable pub text_at : Reader (List ℕ)
text_at bytes = where_at is_text (as_at (λ p. p.1) (then_at (number_at w32) bytes_at)) bytes
