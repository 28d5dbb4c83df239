-- The text of a row id is short.
--     front_short    what stands before the number
--     id_short       with the number: a text takes it
use Rattle.std.proofs.Common.{arith, ℕ, List, ◌++◌, ◌^◌, ◌<◌, ◌≤◌}
use Rattle.std.proofs.Common.{length, length-append}
use Rattle.std.specs.Prelude.{codes, decimal}
use Rattle.std.proofs.lemmas.Fmt.{length-decimal-le}

pub front_short : (source : ℕ) → source < 2 ^ 32 → length (decimal source ++ codes ":") ≤ 11
front_short source fits =
    let digits : length (decimal source) ≤ 10 = length-decimal-le 10 source (omega arith) (omega arith) (omega arith) in
    grind (arith, length-append)

pub id_short : (front digits : List ℕ) → length front ≤ 11 → length digits ≤ 40 → length (front ++ digits) ≤ 65536
id_short front digits front_fits digits_fit = grind (arith, length-append)
