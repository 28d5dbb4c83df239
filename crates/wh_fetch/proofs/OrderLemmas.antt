-- The order of the positions of what is kept.
--     kept-promoted    a hit goes to the front
--     kept-put         what was read goes to the front, and the last of 256 goes
use Rattle.std.proofs.Common.{◌≡◌, ℕ, zero, suc, List, [], ◌∷◌, take, true, false, Option, Some, None, nat_eq}
use Rattle.std.proofs.Common.{refl, sym, ap, subst, ◌∙◌}
use Rattle.std.proofs.lemmas.Bool.{eqb-true}
use Rattle.std.specs.Map.{lookup, lookup_entry, remove_entry}
use Rattle.lru.specs.LruCache.{LruCache, promoted, put_entries}
use Rattle.wh_fetch.specs.declared.kept.Kept.{Kept}
use Rattle.wh_fetch.specs.Cache.{kept_of, removed, stands, brought}

kept-remove : (at : ℕ) (es : List (ℕ × Kept)) → kept_of (remove_entry (nat_eq at) es) ≡ removed at (kept_of es)
kept-remove at [] = refl
kept-remove at (e ∷ es) =
    (elim (nat_eq at e.0) as (λ y. nat_eq at e.0 ≡ y
    → kept_of (remove_entry (nat_eq at) (e ∷ es)) ≡ removed at (kept_of (e ∷ es))) [
      | true ↦ λ t. rw t refl
      | false ↦ λ t. rw t (ap (λ (ks : List ℕ). e.0 ∷ ks) (kept-remove at es))
    ]) refl

there : (at : ℕ) (es : List (ℕ × Kept)) (e : ℕ × Kept) → lookup_entry (nat_eq at) es ≡ Some e
    → (stands at (kept_of es) ≡ true) × (e.0 ≡ at)
there at [] e found = absurd cc
there at (d ∷ es) e found =
    (elim (nat_eq at d.0) as (λ y. nat_eq at d.0 ≡ y → (stands at (kept_of (d ∷ es)) ≡ true) × (e.0 ≡ at)) [
      | true ↦ λ t. let f = rw t at found in let same : d ≡ e = cc in
          (rw t refl, sym (eqb-true at e.0 (subst (λ (x : ℕ × Kept). nat_eq at x.0 ≡ true) same t)))
      | false ↦ λ t. let later = there at es e (rw t at found) in (rw t later.0, later.1)
    ]) refl

nowhere : (at : ℕ) (es : List (ℕ × Kept)) → lookup_entry (nat_eq at) es ≡ None → stands at (kept_of es) ≡ false
nowhere at [] none = refl
nowhere at (d ∷ es) none =
    (elim (nat_eq at d.0) as (λ y. nat_eq at d.0 ≡ y → stands at (kept_of (d ∷ es)) ≡ false) [
      | true ↦ λ t. let f = rw t at none in absurd cc
      | false ↦ λ t. rw t (nowhere at es (rw t at none))
    ]) refl

not_there : (at : ℕ) (v : Kept) (es : List (ℕ × Kept)) → lookup_entry (nat_eq at) es ≡ None
    → lookup (nat_eq at) es ≡ Some v → ⊥
not_there at v [] none found = absurd cc
not_there at v (d ∷ es) none found =
    (elim (nat_eq at d.0) as (λ y. nat_eq at d.0 ≡ y → ⊥) [
      | true ↦ λ t. let f = rw t at none in absurd cc
      | false ↦ λ t. not_there at v es (rw t at none) (rw t at found)
    ]) refl

kept-take : (n : ℕ) (es : List (ℕ × Kept)) → kept_of (take n es) ≡ take n (kept_of es)
kept-take zero es = refl
kept-take (suc n) [] = refl
kept-take (suc n) (e ∷ es) = ap (λ (ks : List ℕ). e.0 ∷ ks) (kept-take n es)

pub kept-promoted : (at : ℕ) (es : List (ℕ × Kept)) (v : Kept) → lookup (nat_eq at) es ≡ Some v
    → kept_of (promoted (nat_eq at) es) ≡ brought at (kept_of es)
kept-promoted at es v found = go (lookup_entry (nat_eq at) es) refl
  where
    go : (o : Option (ℕ × Kept)) → lookup_entry (nat_eq at) es ≡ o
        → kept_of (promoted (nat_eq at) es) ≡ brought at (kept_of es)
    go (Some e) is = let h = there at es e is in
        rw (is, h.0) (ap (λ (k : ℕ). k ∷ kept_of (remove_entry (nat_eq at) es)) h.1
        ∙ ap (λ (ks : List ℕ). at ∷ ks) (kept-remove at es))
    go None is = absurd (not_there at v es is found)

pub kept-put : (cache : LruCache ℕ Kept) (at : ℕ) (v : Kept) → cache.cap ≡ 256
    → kept_of (put_entries nat_eq cache at v) ≡ brought at (kept_of cache.entries)
kept-put cache at v cap = go (lookup_entry (nat_eq at) cache.entries) refl
  where
    go : (o : Option (ℕ × Kept)) → lookup_entry (nat_eq at) cache.entries ≡ o
        → kept_of (put_entries nat_eq cache at v) ≡ brought at (kept_of cache.entries)
    go (Some e) is = let h = there at cache.entries e is in
        rw (is, h.0) (ap (λ (k : ℕ). k ∷ kept_of (remove_entry (nat_eq at) cache.entries)) h.1
        ∙ ap (λ (ks : List ℕ). at ∷ ks) (kept-remove at cache.entries))
    go None is = rw (is, nowhere at cache.entries is, cap) (ap (λ (ks : List ℕ). at ∷ ks) (kept-take 255 cache.entries))
