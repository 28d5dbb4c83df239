-- What holds of a reader's outcome, step by step, over any state: the goal says which lemma serves. Soundness goes from
-- an outcome to what stands at the front, completeness from what stands there to the outcome.
--     Bound, bind_some                   one step after the other
--     Yields, follow, mapped             what holds of an outcome
--     yields_law, yielded                from a reading function's law, and to it
use Rattle.std.proofs.Common.{◌≡◌, Bool, true, false, Option, Some, None, refl, ap, subst, if◌then◌else◌}
use Rattle.std.proofs.lemmas.Option.{same_Some}
use Rattle.wh_cursor.specs.Steps.{ReaderOf, and_then}

-- ---- one step after the other

-- what the first step read, where both read
pub record Bound {S A B : Type 0} (read : Option (A × S)) (f : A → ReaderOf S B) (y : B) (us : S) : Type 0 where
  pub value : A
  pub left : S
  pub first : read ≡ Some (value, left)
  pub next : f value left ≡ Some (y, us)

pub bind_some : {S A B : Type 0} (read : Option (A × S)) (f : A → ReaderOf S B) {y : B} {us : S}
    → and_then read f ≡ Some (y, us) → Bound read f y us
bind_some None f h = absurd (cc)
bind_some (Some p) f h = record { value = p.0; left = p.1; first = refl; next = h }

pub pure_some : {S A : Type 0} {x y : A} {ts us : S}
    → ◌≡◌ {A = Option (A × S)} (Some (x, ts)) (Some (y, us)) → (x ≡ y) × (ts ≡ us)
pure_some {S} {A} h = let same = same_Some _ _ h in (ap (λ (q : A × S). q.0) same, ap (λ (q : A × S). q.1) same)

-- ---- what holds of an outcome

-- where there is an outcome, it is such a one
abbrev pub Is : {S A : Type 0} → (A → S → Type 0) → Option (A × S) → Type 0
Is Q None = Unit {0}
Is Q (Some p) = Q p.0 p.1

pub record Yields {S A : Type 0} (o : Option (A × S)) (Q : A → S → Type 0) : Type 0 where
  pub is : Is Q o

pub yields : {S A : Type 0} {Q : A → S → Type 0} (x : A) (us : S) → Q x us → Yields (Some (x, us)) Q
yields x us h = record { is = h }

pub nothing : {S A : Type 0} {Q : A → S → Type 0} → Yields None Q
nothing = record { is = tt }

-- to a reading function's law and from it
pub yielded : {S A : Type 0} {o : Option (A × S)} {Q : A → S → Type 0} → Yields o Q → (x : A) (us : S)
    → o ≡ Some (x, us) → Q x us
yielded {o = o} {Q} h x us e = subst (Is Q) e h.is

yields_by : {S A : Type 0} (o : Option (A × S)) (Q : A → S → Type 0) → ((x : A) (us : S) → o ≡ Some (x, us) → Q x us)
    → Is Q o
yields_by None Q k = tt
yields_by (Some p) Q k = k p.0 p.1 refl

pub yields_law : {S A : Type 0} {o : Option (A × S)} {Q : A → S → Type 0}
    → ((x : A) (us : S) → o ≡ Some (x, us) → Q x us)
    → Yields o Q
yields_law {o = o} {Q} k = record { is = yields_by o Q k }

then_by : {S A B : Type 0} (o : Option (A × S)) (f : A → ReaderOf S B) (P : A → S → Type 0) (Q : B → S → Type 0)
    → Is P o → ((x : A) (ms : S) → P x ms → Yields (f x ms) Q)
    → Is Q (and_then o f)
then_by None f P Q h k = tt
then_by (Some p) f P Q h k = (k p.0 p.1 h).is

pub follow : {S A B : Type 0} {o : Option (A × S)} {f : A → ReaderOf S B} {P : A → S → Type 0} {Q : B → S → Type 0}
    → Yields o P → ((x : A) (ms : S) → P x ms → Yields (f x ms) Q)
    → Yields (and_then o f) Q
follow {o = o} {f} {P} {Q} h k = record { is = then_by o f P Q h.is k }

mapped_by : {S A : Type 0} (o : Option (A × S)) (P Q : A → S → Type 0) → Is P o → ((x : A) (us : S) → P x us → Q x us)
    → Is Q o
mapped_by None P Q h k = tt
mapped_by (Some p) P Q h k = k p.0 p.1 h

pub mapped : {S A : Type 0} {o : Option (A × S)} {P Q : A → S → Type 0} → Yields o P
    → ((x : A) (us : S) → P x us → Q x us)
    → Yields o Q
mapped {o = o} {P} {Q} h k = record { is = mapped_by o P Q h.is k }

-- behind a test
pub if_test : {S A : Type 0} (r : Bool) {x y : Option (A × S)} {Q : A → S → Type 0} → (r ≡ true → Yields x Q)
    → (r ≡ false → Yields y Q) → Yields (if r then x else y) Q
if_test true g h = g refl
if_test false g h = h refl
