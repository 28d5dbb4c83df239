-- Operands of one level: what is read, from what one turn takes; and what is read wherever it stands.
--     joined-sound, chain-sound              what is read, from what an operator and the operand behind it are
--     Comes, comes-first, comes-next, comes-ends     what is read, where each stands
use Rattle.std.proofs.Common.{◌≡◌, ℕ, zero, suc, ◌≤◌, Option, Some, None, ◌∙◌, refl, arith}
use Rattle.wh_cursor.specs.Steps.{and_then}
use Rattle.wh_cursor.specs.Chains.{Links, behind, joined, chain}
use Rattle.wh_cursor.proofs.Yields.{Yields, yields, follow}

-- P: what was read so far
abbrev pub Joins : {S A O : Type 0} → Links S A O → (A → S → Type 0) → A → Option O → S → Type 0
Joins links P x None s = P x s
Joins links P x (Some op) s = Yields (links.operand s) (λ y t. P (links.make op x y) t)

module _ {S A O : Type 0} (links : Links S A O) (P : A → S → Type 0)
    (turn : (x : A) (s : S) → P x s → Yields (links.operator s) (Joins links P x)) where
  pub joined-sound : (n : ℕ) (x : A) (s : S) → P x s → Yields (joined links n x s) P
  unfolding joined
  joined-sound zero x s h = yields x s h
  joined-sound (suc n) x s h = follow (turn x s h) (λ found t i. by (joined-sound n) x found t i)
    where
      by : ((x : A) (s : S) → P x s → Yields (joined links n x s) P) → (x : A) (found : Option O) (t : S)
          → Joins links P x found t
          → Yields (behind links (joined links n) x found t) P
      by more x None t i = yields x t i
      by more x (Some op) t i = follow i (λ y u j. more (links.make op x y) u j)

  pub chain-sound : (most : S → ℕ) (s : S) → Yields (links.operand s) P → Yields (chain links most s) P
  chain-sound most s first = follow first (λ x t h. joined-sound (most t) x t h)

-- the turns have come to x, and at least so many may come
pub record Comes {S A O : Type 0} (links : Links S A O) (read : Option (A × S)) (least : ℕ)
    (x : A) (s : S) : Type 0 where
  pub fuel : ℕ
  pub enough : least ≤ fuel
  pub run : read ≡ joined links fuel x s

pub comes-first : {S A O : Type 0} (links : Links S A O) (most : S → ℕ) {s t : S} {x : A}
    → links.operand s ≡ Some (x, t)
    → Comes links (chain links most s) (most t) x t
comes-first links most {t = t} h = record { fuel = most t; enough = omega arith; run = rw h refl }

pub comes-next : {S A O : Type 0} {links : Links S A O} {read : Option (A × S)} {least less : ℕ} {x y : A} {op : O}
    {s t u : S}
    → Comes links read least x s → links.operator s ≡ Some (Some op, t) → links.operand t ≡ Some (y, u)
    → suc less ≤ least → Comes links read less (links.make op x y) u
unfolding joined
comes-next {links = links} {read} {least} {less} {x} {y} {op} {s} {t} {u} h o l below = by h.fuel h.enough h.run
  where
    by : (fuel : ℕ) → least ≤ fuel → read ≡ joined links fuel x s → Comes links read less (links.make op x y) u
    by zero few is = absurd (omega (arith, few, below))
    by (suc fuel) few is = record { fuel = fuel; enough = omega (arith, few, below); run = is ∙ rw (o, l) refl }

pub comes-ends : {S A O : Type 0} {links : Links S A O} {read : Option (A × S)} {least : ℕ} {x : A} {s : S}
    → Comes links read least x s → links.operator s ≡ Some (None, s)
    → read ≡ Some (x, s)
unfolding joined
comes-ends {links = links} {x = x} {s} h end = h.run ∙ by h.fuel
  where
    by : (fuel : ℕ) → joined links fuel x s ≡ Some (x, s)
    by zero = refl
    by (suc fuel) = rw end refl
