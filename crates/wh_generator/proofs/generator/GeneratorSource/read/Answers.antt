use Rattle.std.proofs.Common.{◌≡◌, ap, ◌∙◌, sym, Some, ◌-◌, length, take, drop, arith}
use Rattle.std.proofs.lemmas.Grind.{common_steps}
use Rattle.wh_generator.specs.Rest.{behind}
use Rattle.wh_generator.proofs.Pieces.{given_and_left}
use Rattle.wh_generator.proofs.generator.GeneratorSource.read.Goals as goal

pub returns-clause-taken : goal.returns-clause-taken
returns-clause-taken c =
    let piece = c.refill.new.piece.items in
    let given = c.refill.new.given in
    let count = c.copy-count.result in
    let seen = c.deref.result.now in
    let all : take (length seen - given) (drop given seen) ≡ drop given seen = grind (arith, common_steps) in
    let copied : take count c.copy-count.new.buf ≡ take count (drop given piece) =
    c.copy-count.ensures.copied ∙ ap (take count) (all ∙ ap (drop given) c.deref.ensures.value) in
    ap Some (sym c.self.view_is ∙ sym c.refill.ensures.same ∙ given_and_left piece (behind c.refill.new.rest) _ given count copied)
