use Rattle.std.proofs.Common.{◌∙◌, ap, sym, Some, None}
use Rattle.wh_maintenance.specs.Standing.{if_left}
use Rattle.wh_maintenance.specs.Entries.{set_at}
use Rattle.wh_group.specs.Slots.{slots_of, groups_of_slots, kept_groups, put_at}
use Rattle.wh_group.proofs.SlotLaws.{kept-insert, kept-absent, put-replaced, put-absent}
use Rattle.wh_group.proofs.groups.Groups.vacate.Goals as goal

pub returns-in-Ok-clause-ok : goal.returns-in-Ok-clause-ok
returns-in-Ok-clause-ok c =
    ap groups_of_slots c.in-Ok.ensures.1
    ∙ kept-insert (slots_of c.args.self.now) c.args.key c.gone.result
    ∙ ap (λ s. set_at (kept_groups c.args.self.now) c.args.key (if_left s)) c.gone.ensures

pub returns-in-Ok-clause-was : goal.returns-in-Ok-clause-was
returns-in-Ok-clause-was c =
    put-replaced (slots_of c.args.self.now) c.args.key c.gone.result c.in-Ok.was c.in-Ok.ensures.0
    ∙ ap (λ slots. put_at slots c.args.key (Some c.in-Ok.was)) (sym c.in-Ok.ensures.1)

pub returns-clause-ok : goal.returns-clause-ok
returns-clause-ok c =
    ap groups_of_slots c.in-Err.ensures.2
    ∙ kept-absent (slots_of c.args.self.now) c.args.key c.in-Err.ensures.1

pub returns-clause-was : goal.returns-clause-was
returns-clause-was c =
    put-absent (slots_of c.args.self.now) c.args.key c.in-Err.ensures.1
    ∙ ap (λ slots. put_at slots c.args.key None) (sym c.in-Err.ensures.2)
