-- What contracts see of an `Ahead`.
--     consumed    how many bytes were used
--     Fills       bytes stand ahead, of what is still to be read
--     Uses        the next byte was used
--     AtEnd       nothing is left to be read
--     total       the bytes that the source has left, and those that were taken
use Rattle.std.specs.Prelude.{◌≡◌, ℕ, ◌+◌, ◌-◌, ◌<◌, List, [], ◌∷◌, length, Option, Some, option_map}
use Rattle.wh_text.specs.Turn.{ahead_and}

pub record AheadState : Type 0 where
  -- what was taken from the source and not used yet
  pub bytes : List ℕ
  -- how many bytes were taken
  pub taken : ℕ

-- how many bytes were used
abbrev pub consumed : AheadState → ℕ
consumed ahead = ahead.taken - length ahead.bytes

pub record Fills (old new : AheadState) (left_old left_new : Option (List ℕ)) : Type 0 where
  pub some : 0 < length new.bytes
  pub same : ahead_and new.bytes left_new ≡ ahead_and old.bytes left_old
  pub unused : consumed new ≡ consumed old

pub record Uses (old new : AheadState) (left_old : Option (List ℕ))
    (byte : ℕ) (left_new : Option (List ℕ)) : Type 0 where
  pub first : ahead_and old.bytes left_old ≡ option_map (λ rest. byte ∷ rest) (ahead_and new.bytes left_new)
  pub used : consumed new ≡ consumed old + 1

pub record AtEnd (old new : AheadState) (left_old left_new : Option (List ℕ)) : Type 0 where
  pub none : (script : List ℕ) → ahead_and old.bytes left_old ≡ Some script → script ≡ []
  pub same : ahead_and new.bytes left_new ≡ ahead_and old.bytes left_old
  pub unused : consumed new ≡ consumed old

abbrev pub total : AheadState → Option (List ℕ) → Option ℕ
total ahead left = option_map (λ bytes. length bytes + ahead.taken) left
