-- Numbers as words write them.
--     number_of        the number that digits write, at most ten of them and no zero in front
--     number_in        such a number from the least to the most
--     given_number     the same of a value that may be missing
use Rattle.std.specs.Prelude.{ℕ, ◌+◌, ◌-◌, ◌*◌, Bool, ◌&&◌, nat_lt, nat_le, if◌then◌else◌}
use Rattle.std.specs.Prelude.{List, [], ◌∷◌, Option, Some, None, option_and_then}

abbrev pub is_digit : ℕ → Bool
is_digit c = nat_le 48 c && nat_le c 57

-- the number that digits write behind those of n; a number of ten digits takes no more
abbrev pub value_after : ℕ → List ℕ → Option ℕ
value_after n [] = Some n
value_after n (c ∷ cs) = if is_digit c && nat_lt n 1000000000 then value_after (n * 10 + (c - 48)) cs else None

abbrev pub number_of : List ℕ → Option ℕ
number_of [] = None
number_of (c ∷ []) = value_after 0 (c ∷ [])
number_of (c ∷ d ∷ cs) = if nat_lt c 49 then None else value_after 0 (c ∷ d ∷ cs)

abbrev pub number_in : ℕ → ℕ → List ℕ → Option ℕ
number_in least most text =
    option_and_then (λ n. if nat_le least n && nat_le n most then Some n else None) (number_of text)

abbrev pub given_number : ℕ → ℕ → Option (List ℕ) → Option ℕ
given_number least most given = option_and_then (number_in least most) given
