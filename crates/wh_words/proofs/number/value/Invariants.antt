use Rattle.std.proofs.Common.{◌≡◌, drop}
use Rattle.wh_words.specs.Number.{value_after}
use Rattle.wh_words.proofs.number.value.Given as goal

abbrev pub invariant-loop-digit : goal.invariant-loop-digit
invariant-loop-digit l = value_after 0 l.digits ≡ value_after l.value (drop l.digit-index l.digits)
