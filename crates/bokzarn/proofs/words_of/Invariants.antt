use Rattle.std.proofs.Common.{◌≡◌, ◌++◌}
use Rattle.std.specs.Vec.Iter.{into_iter_items}
use Rattle.bokzarn.specs.Ending.{words_in}
use Rattle.bokzarn.proofs.words_of.Given as goal

abbrev pub invariant-loop-word : goal.invariant-loop-word
invariant-loop-word l = words_in l.fn.arguments ≡ l.words.items ++ into_iter_items l.word-iterator
