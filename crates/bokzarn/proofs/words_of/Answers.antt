use Rattle.bokzarn.proofs.Words.{behind_first, none_left}
use Rattle.bokzarn.proofs.words_of.Goals as goal

pub loop-word-init : goal.loop-word-init
loop-word-init c =
    let behind = behind_first _ _ _ _ _ c.args.arguments.rest.ok.0 c.next-name.new.self.rest.ok.0
    c.next-name.ensures.cases in
    rw (c.new-words.ensures.items, c.into_iter-word-iterator.ensures.into_iter_gives) behind

pub returns : goal.returns
returns c =
    none_left _ _ _ c.loop-word.word-iterator.rest.ok.0 c.in-None.ensures.steps.0 c.loop-word.invariant
