-- What stands in the file after a version was taken back.
--     count_filed      the number that the next partition has counts them
--     filed_less       the first ones of what is kept, of which some stand again
--     filed_again      as before the version was pushed
use Rattle.std.proofs.Common.{◌≡◌, ℕ, ◌+◌, ◌-◌, List, ◌∷◌, ◌++◌, [], length, map, take, refl, ap, sym, ◌∙◌, arith}
use Rattle.std.proofs.lemmas.List.{take-map, take_all, take-append-le}
use Rattle.wh_filed.specs.Filed.{Filed}
use Rattle.wh_version.specs.declared.history.History.{History}
use Rattle.wh_version.specs.declared.lasting.Lasting.{Lasting}
use Rattle.wh_version.specs.Lasting.{filed_in, stands_again}
use Rattle.wh_version.specs.History.{nexts_of, filed_of, next_in}
use Rattle.wh_version.proofs.Kept.{length_filed}
use Rattle.wh_version.proofs.Last.{next_last, counts_all}
use Rattle.wh_version.proofs.Popped.{again_filed}

pub count_filed : (h : History) → next_in (nexts_of h) ≡ length (filed_of h) + 1
unfolding nexts_of
count_filed h =
    next_last h.first h.later.items
    ∙ ap (λ n. n + 1)
    (counts_all 0 h.first h.later.items (length h.kept.items) h.marks ∙ sym (length_filed h.kept.items))

all_again : (place : ℕ) (kept : List Lasting) → filed_in (map (stands_again place) kept) ≡ filed_in kept
all_again place [] = refl
all_again place (k ∷ kept) = λ i. again_filed place k i ∷ all_again place kept i

pub filed_less : (place n : ℕ) (kept : List Lasting)
    → filed_in (map (stands_again place) (take n kept)) ≡ take n (filed_in kept)
filed_less place n kept = all_again place (take n kept) ∙ sym (take-map (λ k. k.filed) n kept)

pub filed_again : (before popped : History) (all added : List Filed) → nexts_of popped ≡ nexts_of before
    → all ≡ filed_of before ++ added → filed_of popped ≡ take (next_in (nexts_of popped) - 1) all
    → filed_of popped ≡ filed_of before
filed_again before popped all added nexts pushed less =
    let count = ap next_in nexts ∙ count_filed before in
    less
    ∙ ap (take (next_in (nexts_of popped) - 1)) pushed
    ∙ take-append-le (next_in (nexts_of popped) - 1) (filed_of before) added (omega (arith, count))
    ∙ take_all (next_in (nexts_of popped) - 1) (filed_of before) (omega (arith, count))
