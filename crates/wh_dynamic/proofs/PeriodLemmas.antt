-- The doublings that give a period.
use Rattle.std.proofs.Common.{◌≡◌, ℕ, suc, ◌+◌, ◌-◌, ◌*◌, ◌<◌, ◌≤◌, refl, sym, ap, ◌∙◌, arith}
use Rattle.std.proofs.lemmas.Bool.{le-leb}
use Rattle.wh_moment.specs.Moment.{doubled_up_to}

goes_on : (turns lag n : ℕ) → 2 * n ≤ lag → doubled_up_to turns lag (2 * n) ≡ doubled_up_to (suc turns) lag n
goes_on turns lag n within = rw (le-leb (2 * n) lag within) refl

-- with so many doublings counted
pub doubled_on : (counted most lag n all : ℕ) → counted < most → 2 * n ≤ lag
    → doubled_up_to (most - counted) lag n ≡ all → doubled_up_to (most - (counted + 1)) lag (2 * n) ≡ all
doubled_on counted most lag n all more within is =
    let turns : most - counted ≡ suc (most - (counted + 1)) = omega (arith, more) in
    goes_on (most - (counted + 1)) lag n within ∙ ap (λ (t : ℕ). doubled_up_to t lag n) (sym turns) ∙ is
