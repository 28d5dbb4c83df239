use Rattle.std.proofs.Common.{rules, ◌≡◌, ◌++◌, List, [], sym, ap, ◌∙◌}
use Rattle.std.specs.Vec.Iter.{into_iter_items}
use Rattle.std.proofs.lemmas.List.{append-nil, nil_from_length}
use Rattle.wh_frame.specs.Partition.{Partition}
use Rattle.wh_filed.specs.Filed.{partitions_filed}
use Rattle.wh_filed.specs.Filing.{filed_from}
use Rattle.wh_filed.proofs.FilingLaws.{partitions_from}
use Rattle.wh_filed.proofs.filing.filed_from.Goals as goal

pub returns-clause-same : goal.returns-clause-same
returns-clause-same c =
    let at = c.loop-outline in
    let items = at.filed.items in
    let none = c.in-None.ensures.steps in
    let empty : into_iter_items at.outline-iterator ≡ [] = nil_from_length _ (sym at.invariant.count ∙ none.0) in
    let given : into_iter_items c.into_iter-outline-iterator.result ≡ c.args.outlines.items = search rules in
    let placed : items ≡ filed_from c.args.object c.args.at c.args.outlines.items =
    sym (append-nil items)
    ∙ ap (λ (ps : List Partition). items ++ filed_from c.args.object at.next ps) (sym empty)
    ∙ at.invariant.placed
    ∙ ap (filed_from c.args.object c.args.at) given in
    ap partitions_filed placed ∙ partitions_from c.args.object c.args.at c.args.outlines.items
