use Rattle.std.proofs.Common.{◌∙◌, ap, sym, nat_eq}
use Rattle.std.proofs.lemmas.Bool.{le-ltb}
use Rattle.wh_delta.proofs.Rising.{stands_told, none_behind}
use Rattle.wh_delta.proofs.moved.stands_at.Goals as goal

pub returns-then-place-others : goal.returns-then-place-others
returns-then-place-others c =
    ap (λ n. nat_eq n c.number-then-place-others.result) c.number.ensures
    ∙ ap (λ m. nat_eq c.args.one.now.partition.number m) c.number-then-place-others.ensures
    ∙ stands_told c.args.others.now c.args.one.now c.args.place c.index-others-place.result c.requires.rise
    c.requires.front c.requires.behind c.if-place-others.true c.index-others-place.is

pub returns-else-place-others : goal.returns-else-place-others
returns-else-place-others c =
    le-ltb c.args.place _ c.if-place-others.false
    ∙ sym (none_behind c.args.others.now c.args.one.now c.args.place c.requires.rise c.requires.front
    c.if-place-others.false)
