use Rattle.std.proofs.Common.{subst}
use Rattle.wh_fetch.specs.DiskFetch.{told_of, Covers}
use Rattle.wh_filed.proofs.FetchingLaws.{all_shown_by, all_covered}
use Rattle.wh_filed.specs.Filed.{filed_at}
use Rattle.wh_state.specs.Edits.{Edits}
use Rattle.wh_table.specs.Edited.{IsEdited}
use Rattle.wh_table.specs.Table.{table_of, filed_of}
use Rattle.wh_version.specs.Edits.{edits_in}
use Rattle.wh_version.proofs.Among.{told_held}
use Rattle.wh_txn.proofs.standing.edited.Goals as goal

pub edited-requires : goal.edited-requires
edited-requires g c =
    all_covered (Covers g.D.Disk c.args.fetch.now) (filed_of c.args.table.now) (λ part. c.requires)

pub returns-clause-stands : goal.returns-clause-stands
returns-clause-stands g c = λ shown stamp.
    let t = c.args.table.now in
    let told = all_shown_by (told_of g.D.Disk c.args.fetch.now) (filed_of t) shown in
    c.in_ok-filed.ensures.holds stamp (edits_in c.args.staged.now.edits)
    (subst (λ (e : Edits). IsEdited c.in_ok-edited.edited e (table_of t)) c.in_ok-edits.ensures
    (c.in_ok-edited.ensures.edited told))

pub returns-in_err-edited-clause-sound : goal.returns-in_err-edited-clause-sound
returns-in_err-edited-clause-sound g c = λ shown.
    c.in_err-edited.ensures.sound
    (all_shown_by (told_of g.D.Disk c.args.fetch.now) (filed_of c.args.table.now) shown)

pub returns-in_err-filed-clause-sound : goal.returns-in_err-filed-clause-sound
returns-in_err-filed-clause-sound g c = λ shown.
    c.in_ok-edited.ensures.sound
    (all_shown_by (told_of g.D.Disk c.args.fetch.now) (filed_of c.args.table.now) shown)

pub returns-clause-sound : goal.returns-clause-sound
returns-clause-sound g c = λ shown.
    c.in_ok-edited.ensures.sound
    (all_shown_by (told_of g.D.Disk c.args.fetch.now) (filed_of c.args.table.now) shown)

pub returns-clause-among : goal.returns-clause-among
returns-clause-among g c =
    told_held (filed_at c.in_ok-filed.filed.items) (filed_of c.args.table.now) c.in_ok-filed.ensures.among
