use Rattle.std.proofs.Common.{◌∙◌, ap, bytes_eq}
use Rattle.std.specs.List.{list_any}
use Rattle.wh_cursor.proofs.WordLemmas.{any_map, is_reserved-flipped}
use Rattle.wh_cursor.proofs.reserved.contains.Goals as goal

pub returns : goal.returns
returns c =
    let word = c.args.word.now in
    c.contains.ensures.value
    ∙ any_map (λ y. bytes_eq y word) (λ w. w.now) c.words_of.result.now
    ∙ ap (list_any (λ y. bytes_eq y word)) c.words_of.ensures
    ∙ is_reserved-flipped word
