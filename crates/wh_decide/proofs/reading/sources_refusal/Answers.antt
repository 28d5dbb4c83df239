use Rattle.std.proofs.Common.{sym, ◌∙◌}
use Rattle.std.proofs.lemmas.Result.{IfOk-weaker}
use Rattle.wh_decide.specs.Sight.{machine_in}
use Rattle.wh_decide.proofs.ReadingLemmas.{wide_first, then_read}
use Rattle.wh_decide.proofs.reading.sources_refusal.Goals as goal

pub returns-then-is_wide : goal.returns-then-is_wide
returns-then-is_wide c =
    sym (wide_first (machine_in c.args.sight.now) c.args.is_wide c.args.ids.now c.if-is_wide.true)

pub returns : goal.returns
returns c =
    let narrow = then_read (machine_in c.args.sight.now) c.args.is_wide c.args.ids.now c.if-is_wide.false in
    IfOk-weaker c.reading_refusal.result _ _ (λ found is. is ∙ sym narrow) c.reading_refusal.ensures
