-- A list cut into pieces, with an answer of each.
use Rattle.std.specs.Prelude.{◌≡◌, ◌≤◌, ℕ, List, length}
use Rattle.std.specs.List.{AllZip, flat_map}

-- there are pieces, at most so many, which side by side are the list; and R holds of each and its answer, in their order
pub record PiecesOf {X T : Type 0} (most : ℕ) (xs : List X) (R : List X → T → Type 0) (answers : List T) : Type 0 where
  pub pieces : List (List X)
  pub whole : flat_map (λ piece. piece) pieces ≡ xs
  pub few : length pieces ≤ most
  pub answered : AllZip R pieces answers
