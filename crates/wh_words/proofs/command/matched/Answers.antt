use Rattle.std.proofs.Common.{◌≡◌, Bool, true, false, ◌&&◌, refl}
use Rattle.wh_words.proofs.command.matched.Goals as goal

first : (a b : Bool) → (a && b) ≡ true → a ≡ true
first true b e = refl
first false b e = absurd cc

pub returns-in-Ok-clause-ok : goal.returns-in-Ok-clause-ok
returns-in-Ok-clause-ok c = (c.in-Ok.ensures.kinds c.requires, (c.in-Ok.ensures.matches (first _ _ c.requires)).0)
