use Rattle.std.proofs.Common.{Some, None, option_map, ap, sym, ◌∙◌}
use Rattle.wh_reply.specs.View.{refusal_view, reply_view}
use Rattle.wh_decide.specs.Sight.{machine_in}
use Rattle.wh_decide.proofs.OutcomeLemmas.{decides_as}
use Rattle.wh_decide.proofs.DefineLemmas.{defines_by}
use Rattle.wh_decide.proofs.definitions.tested.Goals as goal

pub returns-in-Some : goal.returns-in-Some
returns-in-Some c = λ acts is.
    let sight = c.args.sight.now in
    defines_by (machine_in sight) sight.session c.args.old (option_map refusal_view c.args.wrong)
    (Some (refusal_view c.in-Some.why)) (reply_view c.args.reply) acts
    (sym (ap (option_map refusal_view) c.in-Some.is) ∙ c.definition_refusal.ensures)

pub returns-in-None : goal.returns-in-None
returns-in-None c = λ acts is.
    let sight = c.args.sight.now in
    decides_as sight c.defined.result
    (sym (defines_by (machine_in sight) sight.session c.args.old (option_map refusal_view c.args.wrong) None
    (reply_view c.args.reply) acts
    (sym (ap (option_map refusal_view) c.in-None.is) ∙ c.definition_refusal.ensures)))
    (c.defined.ensures.comes acts is)
