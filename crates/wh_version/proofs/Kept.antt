-- What is kept, as it stands in the file and with its rows alone.
--     length_filed, length_partitions     as many as are kept
--     standing_append                     what stands of two lists, one behind the other
--     joined                              lists joined as they stand in the file are joined with their rows
--     among_more                          some that are among them are so with one more that is kept
--     holds                               what is kept has the one at a place
use Rattle.std.proofs.Common.{◌≡◌, ℕ, zero, suc, ◌<◌, List, [], ◌∷◌, ◌++◌, length, get_or, Contains, Option}
use Rattle.std.proofs.Common.{sym, subst, ap, ◌∙◌, arith}
use Rattle.std.proofs.lemmas.List.{length-map, map-append, get_or-map}
use Rattle.std.proofs.lemmas.List.Elements.{filter-append}
use Rattle.wh_filed.specs.Filed.{Filed, partitions_filed, IsShown, AllShown, AreAmong}
use Rattle.wh_filed.proofs.ShownLaws.{shown_append}
use Rattle.wh_version.specs.declared.lasting.Lasting.{Lasting}
use Rattle.wh_version.specs.Lasting.{filed_in, partitions_in, stands_at, standing_at}

pub length_filed : (kept : List Lasting) → length (filed_in kept) ≡ length kept
length_filed kept = length-map kept (λ k. k.filed)

pub length_partitions : (kept : List Lasting) → length (partitions_in kept) ≡ length kept
length_partitions kept = length-map (filed_in kept) (λ f. f.partition) ∙ length_filed kept

partitions_append : (xs ys : List Lasting) → partitions_in (xs ++ ys) ≡ partitions_in xs ++ partitions_in ys
partitions_append xs ys =
    ap partitions_filed (map-append (λ k. k.filed) xs ys)
    ∙ map-append (λ f. f.partition) (filed_in xs) (filed_in ys)

pub standing_append : (place : ℕ) (xs ys : List Lasting)
    → standing_at place (xs ++ ys) ≡ standing_at place xs ++ standing_at place ys
standing_append place xs ys =
    ap partitions_in (filter-append (stands_at place) xs ys) ∙ partitions_append _ _

pub joined : (xs ys zs : List Filed) → xs ++ ys ≡ zs
    → partitions_filed xs ++ partitions_filed ys ≡ partitions_filed zs
joined xs ys zs is = sym (map-append (λ f. f.partition) xs ys) ∙ ap partitions_filed is

-- ---- one of them

one_shown : (told : Option (List ℕ)) (kept : List Lasting) (i : ℕ) (k : Lasting) → i < length kept
    → k ≡ get_or kept i k → AllShown told (filed_in kept) → IsShown told k.filed
one_shown told [] i k within is shown = absurd (omega arith)
one_shown told (x ∷ kept) zero k within is shown =
    subst (λ (l : Lasting). IsShown told l.filed) (sym is) shown.0
one_shown told (x ∷ kept) (suc i) k within is shown = one_shown told kept i k (omega arith) is shown.1

pub among_more : (kept : List Lasting) (i : ℕ) (k : Lasting) (before after : List Filed) → i < length kept
    → k ≡ get_or kept i k → AreAmong after (before ++ k.filed ∷ []) → AreAmong before (filed_in kept)
    → AreAmong after (filed_in kept)
among_more kept i k before after within is more so_far told shown =
    more told
    (shown_append told before (k.filed ∷ []) (so_far told shown) (one_shown told kept i k within is shown, tt))

pub holds : (kept : List Lasting) (i : ℕ) (k : Lasting) → i < length kept → k ≡ get_or kept i k
    → Contains (filed_in kept) k.filed
holds kept i k within is = (
  i,
  omega (arith, length_filed kept),
  get_or-map (λ x. x.filed) kept i k k.filed within ∙ ap (λ x. x.filed) (sym is),
)
