-- Laws of the images that events leave.
use Rattle.std.specs.Prelude.{◌≡◌, ℕ, ◌-◌, ◌≤◌, List, [], ◌∷◌, length, drop, Some, refl}
use Rattle.std.proofs.Common.{inl, subst, arith}
use Rattle.wh_world.specs.Bytes.{Torn}
use Rattle.wh_world.specs.Events.{Event, wrote, tore, synced, content, IsImage, WasImage}

-- a write that is cut short may leave what was there
pub torn_same : (at n : ℕ) (bytes : List ℕ) → Torn at n bytes bytes
torn_same at n bytes =
    record { before = refl; behind = refl; no_shorter = omega arith; no_longer = omega arith }

-- what a read gives is one of the images
pub is_shown : (first : List ℕ) (past : List Event) → IsImage first past (content first past)
is_shown first [] = refl
is_shown first (wrote at piece ∷ past) = inl refl
is_shown first (tore at n ∷ past) =
    (content first past, is_shown first past, torn_same at n (content first past))
is_shown first (synced ∷ past) = refl

-- an image now is one since each earlier moment
pub counts_now : (first : List ℕ) (past : List Event) (moment : ℕ) (image : List ℕ)
    → moment ≤ length past → IsImage first past image → WasImage first past moment image
counts_now first past moment image earlier now =
    (length past, earlier, omega arith, subst (λ (n : ℕ). IsImage first (drop n past) image) none now)
  where
    none : 0 ≡ length past - length past
    none = omega arith

-- since this moment there is no other
pub only_now : (first : List ℕ) (past : List Event) (image : List ℕ)
    → WasImage first past (length past) image → IsImage first past image
only_now first past image was = subst (λ (n : ℕ). IsImage first (drop n past) image) none was.3
  where
    none : length past - was.0 ≡ 0
    none = omega (arith, was.1)

-- told bytes are those
pub some_same : (a b : List ℕ) → Some a ≡ Some b → a ≡ b
some_same a b is = cc
