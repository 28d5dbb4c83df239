-- The last place at which a partition went.
--     none_gone     of those that were gone by a place none goes later
--     still_gone_with, gone_again     what it says of all still holds of them, after a push and after a pop
use Rattle.std.proofs.Common.{◌≡◌, ℕ, zero, suc, ◌<◌, ◌≤◌, ◌⊎◌, inl, inr, cond, Bool, true, false, List, [], ◌∷◌}
use Rattle.std.proofs.Common.{map, filter, take, IsTrue, refl, ap, ◌∙◌, arith}
use Rattle.std.proofs.lemmas.Bool.{and_parts, and_from, and_right, or_cases, or_right, eqb-true, leb-true}
use Rattle.std.proofs.lemmas.Bool.{le-ltb, lt-leb}
use Rattle.std.specs.Prelude.{nat_lt, nat_le, nat_eq, ◌&&◌}
use Rattle.std.specs.List.{list_all}
use Rattle.wh_version.specs.declared.lasting.Lasting.{Lasting}
use Rattle.wh_version.specs.Lasting.{filed_in, is_gone_between, gone_filed, is_standing, is_gone_by, parted}
use Rattle.wh_version.specs.Lasting.{stands_again, going_with}
use Rattle.wh_version.proofs.Parted.{parted_gone}

stays : (last old new : ℕ) (k : Lasting) → last ≤ old → new < 18446744073709551615 → is_gone_by last k ≡ true
    → is_gone_between old new k ≡ false
stays last old new k before within gone = by_cases (or_cases _ _ gone)
  where
    by_cases : (nat_le k.until last ≡ true) ⊎ (is_standing k ≡ true) → is_gone_between old new k ≡ false
    by_cases (inl early) =
        let here : k.until ≤ last = leb-true k.until last early in
        ap (λ b. b && nat_le k.until new) (le-ltb old k.until (omega arith))
    by_cases (inr still) =
        let here : k.until ≡ 18446744073709551615 = eqb-true k.until 18446744073709551615 still in
        ap (λ b. nat_lt old k.until && b) (lt-leb k.until new (omega arith)) ∙ and_right _ _ refl

pub none_gone : (last old new n : ℕ) (kept : List Lasting) → last ≤ old → new < 18446744073709551615
    → IsTrue (list_all (is_gone_by last) kept)
    → gone_filed old new (take n kept) ≡ []
none_gone last old new zero kept before within gone = refl
none_gone last old new (suc n) [] before within gone = refl
none_gone last old new (suc n) (k ∷ kept) before within gone =
    let each = and_parts (is_gone_by last k) (list_all (is_gone_by last) kept) gone in
    let rest : List Lasting = filter (is_gone_between old new) (take n kept) in
    ap (λ b. filed_in (cond b (k ∷ rest) rest)) (stays last old new k before within each.0)
    ∙ none_gone last old new n kept before within each.1

-- all are gone by the place itself
pub still_gone_with : (last place : ℕ) (numbers : List ℕ) (kept : List Lasting)
    → IsTrue (list_all (is_gone_by last) kept) → IsTrue (list_all (is_gone_by place) kept)
    → IsTrue (list_all (is_gone_by (going_with last place numbers)) (parted place numbers kept))
still_gone_with last place [] kept before there = before
still_gone_with last place (n ∷ numbers) kept before there = parted_gone place (n ∷ numbers) kept there

pub gone_again : (last place n : ℕ) (kept : List Lasting) → IsTrue (list_all (is_gone_by last) kept)
    → IsTrue (list_all (is_gone_by last) (map (stands_again place) (take n kept)))
gone_again last place zero kept gone = refl
gone_again last place (suc n) [] gone = refl
gone_again last place (suc n) (k ∷ kept) gone =
    let each = and_parts (is_gone_by last k) (list_all (is_gone_by last) kept) gone in
    and_from _ _ (one_again (nat_eq k.until place)) (gone_again last place n kept each.1)
  where
    one_again : (b : Bool) → is_gone_by last (cond b (record k { until = 18446744073709551615 }) k) ≡ true
    one_again true = or_right _ _ refl
    one_again false = (and_parts (is_gone_by last k) (list_all (is_gone_by last) kept) gone).0
