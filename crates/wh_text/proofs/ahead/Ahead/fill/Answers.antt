use Rattle.std.proofs.Common.{◌≡◌, ◌∙◌, [], sym, ap, arith}
use Rattle.std.proofs.lemmas.List.{with_items_is}
use Rattle.wh_text.proofs.AheadLaws.{none_ahead, read_behind, read_counts}
use Rattle.wh_text.proofs.ahead.Ahead.fill.Goals as goal

pub returns-clause-some : goal.returns-clause-some
returns-clause-some g c =
    let old = c.args.self.now in
    let here = c.self.inside in
    let none : old.bytes ≡ [] = sym (ap (λ a. a.bytes) c.self.view_is)
    ∙ none_ahead here.buffer.items here.at here.end c.if-self.false in
    let taken : old.taken ≡ here.taken = sym (ap (λ a. a.taken) c.self.view_is) in
    read_behind old here.taken c.in-Ok.count _ c.read.new.buf _ _ none taken
    (with_items_is c.make_room.new.buffer c.read.new.buf (omega arith)) c.in-Ok.ensures.count c.in-Ok.ensures.taken
    c.in-Ok.ensures.at_end

pub returns-clause-counts : goal.returns-clause-counts
returns-clause-counts g c =
    let old = c.args.self.now in
    let here = c.self.inside in
    let taken : old.taken ≡ here.taken = sym (ap (λ a. a.taken) c.self.view_is) in
    read_counts old here.taken c.in-Ok.count [] c.read.new.buf _ _ taken c.in-Ok.ensures.count c.in-Ok.ensures.taken
