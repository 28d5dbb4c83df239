-- What a schedule looks at of the dynamic table of an id.
--     found_at, none_at     by what stands at the place before the id
use Rattle.std.proofs.Common.{◌≡◌, ℕ, suc, ◌-◌, List, Option, Some, None, option_map, slice_get, ap, sym, ◌∙◌, arith}
use Rattle.std.specs.Prelude.{unwrap_or}
use Rattle.std.proofs.lemmas.Option.{slice_get-map}
use Rattle.wh_moment.specs.Upstream as moments
use Rattle.wh_dynamic.specs.View.{watched_of, dynamics_in}
use Rattle.wh_dynamic.specs.declared.watched.Watched.{Watched}

abbrev seen : Option Watched → Option moments.Watched
seen table = option_map watched_of table

by_place : (all : List (Option Watched)) (id : ℕ) (found : Option (Option Watched)) → (id ≡ 0 → ⊥)
    → slice_get all (id - 1) ≡ found
    → unwrap_or (option_map seen found) None ≡ moments.watched_at (dynamics_in all) id
by_place all id found some is =
    let place : id ≡ suc (id - 1) = omega (arith, some) in
    ap (λ (f : Option (Option Watched)). unwrap_or (option_map seen f) None) (sym is)
    ∙ ap (λ (f : Option (Option moments.Watched)). unwrap_or f None) (sym (slice_get-map seen all (id - 1)))
    ∙ ap (moments.watched_at (dynamics_in all)) (sym place)

pub found_at : (all : List (Option Watched)) (id : ℕ) (table : Option Watched) → (id ≡ 0 → ⊥)
    → slice_get all (id - 1) ≡ Some table → option_map watched_of table ≡ moments.watched_at (dynamics_in all) id
found_at all id table some is = by_place all id (Some table) some is

pub none_at : (all : List (Option Watched)) (id : ℕ) → (id ≡ 0 → ⊥) → slice_get all (id - 1) ≡ None
    → None ≡ moments.watched_at (dynamics_in all) id
none_at all id some is = by_place all id None some is
