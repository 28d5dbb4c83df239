use Rattle.std.proofs.Common.{◌≡◌, ◌∙◌, true, sym, ap, arith, rules}
use Rattle.wh_text.specs.Turn.{ahead_and}
use Rattle.wh_text.proofs.AheadLaws.{first_ahead}
use Rattle.wh_text.proofs.ahead.Ahead.take_byte.Goals as goal

pub returns-clause-turn : goal.returns-clause-turn
returns-clause-turn g c =
    let some : c.in_ok-fill.field-0 ≡ true = search rules in
    let filled = rw some at c.in_ok-fill.ensures.some in
    let left = g.S.Source.left c.fill.new.source in
    record {
      first = sym filled.same ∙ ap (λ bytes. ahead_and bytes left) c.pop.ensures.bytes
          ∙ first_ahead c.pop.result c.pop.new.self.bytes left;
      used = omega (arith, c.pop.ensures.one, filled.unused);
    }
