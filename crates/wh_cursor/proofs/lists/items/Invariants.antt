use Rattle.std.proofs.Common.{◌≡◌, ◌-◌}
use Rattle.wh_cursor.specs.declared.key.TokenClass.TheVariants as k
use Rattle.wh_cursor.specs.Steps.{eat_key}
use Rattle.wh_cursor.specs.Lists.{listed, some_from}
use Rattle.wh_cursor.proofs.lists.items.Given as goal

abbrev pub invariant-loop-turn : goal.invariant-loop-turn
invariant-loop-turn g l =
    listed g.reader l.fn.words ≡ some_from g.reader (eat_key k.Comma) (l._turn-end - l._turn) l.found l.words
