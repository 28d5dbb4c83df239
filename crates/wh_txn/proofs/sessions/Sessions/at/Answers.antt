use Rattle.std.proofs.Common.{Option, Some, None, option_map, sym, ap, subst, ◌∙◌}
use Rattle.std.proofs.lemmas.Result.{IfOk-weaker}
use Rattle.wh_fetch.specs.DiskFetch.{told_of}
use Rattle.wh_filed.specs.Filed.{filed_at, partitions_at, AllShown}
use Rattle.wh_state.specs.State.{Table}
use Rattle.wh_state.specs.Objects.{table_at}
use Rattle.wh_state.specs.Stored.{StoredTable, table_meant}
use Rattle.wh_version.proofs.Among.{told_held}
use Rattle.wh_table.specs.Table.{table_of, filed_of}
use Rattle.wh_catalog.specs.Catalog.{stored_of}
use Rattle.wh_machine.specs.Sessions.{transaction_in}
use Rattle.wh_txn.specs.View.{staged_of, sessions_of}
use Rattle.wh_txn.specs.Seen.{StandsAt, own}
use Rattle.wh_txn.proofs.SeenLemmas.{own_table, seen_in, seen_as}
use Rattle.wh_txn.proofs.ShownLemmas.{stands_in}
use Rattle.wh_txn.proofs.sessions.Sessions.at.Goals as goal

pub returns-in_default-clause-stands : goal.returns-in_default-clause-stands
returns-in_default-clause-stands g c = λ _ stamp.
    let t = transaction_in (sessions_of c.args.self.now) c.args.session in
    subst (λ (found : Option Table). StandsAt c.of.result found)
    (sym (seen_in c.args.catalog.now stamp t c.args.id
    ∙ ap (λ (found : Option StoredTable). option_map (own_table stamp (own t c.args.id)) (option_map table_meant found))
    (sym c.in_default.ensures.table)))
    (c.of.ensures.partitions ∙ ap partitions_at c.new.ensures.items)

pub returns-in_default-staged-clause-stands : goal.returns-in_default-staged-clause-stands
returns-in_default-staged-clause-stands g c = λ _ stamp.
    let t = transaction_in (sessions_of c.args.self.now) c.args.session in
    let committed = table_at (stored_of c.args.catalog.now).objects c.args.id in
    let table = table_of c.in-Some.table.now in
    subst (λ (found : Option Table). StandsAt c.of-in_default-staged.result found)
    (sym (seen_in c.args.catalog.now stamp t c.args.id
    ∙ seen_as stamp (own t c.args.id) None committed table (sym {b = own t c.args.id} c.in_default-staged.ensures)
    (sym {b = committed} c.in-Some.ensures.table)))
    (stands_in c.of-in_default-staged.result (partitions_at c.in_ok-filed.filed.items) (table_meant table)
    c.of-in_default-staged.ensures.partitions c.in_ok-filed.ensures.holds)

pub returns-in_default-staged-clause-among : goal.returns-in_default-staged-clause-among
returns-in_default-staged-clause-among g c = λ told shown.
    subst (AllShown told) (sym c.of-in_default-staged.ensures.filed)
    (told_held (filed_at c.in_ok-filed.filed.items) (filed_of c.in-Some.table.now) c.in_ok-filed.ensures.among told
    (c.in-Some.ensures.among told shown))

pub returns-clause-stands : goal.returns-clause-stands
returns-clause-stands g c = λ shown.
    let t = transaction_in (sessions_of c.args.self.now) c.args.session in
    let committed = table_at (stored_of c.args.catalog.now).objects c.args.id in
    let table = table_of c.in-Some.table.now in
    IfOk-weaker c.edited.result _ _ (λ at stands stamp.
    subst (λ (found : Option Table). StandsAt at found)
    (sym (seen_in c.args.catalog.now stamp t c.args.id
    ∙ seen_as stamp (own t c.args.id) (Some (staged_of c.in-Some-staged.staged.now)) committed table
    (sym {b = own t c.args.id} c.in-Some-staged.ensures)
    (sym {b = committed} c.in-Some.ensures.table)))
    (stands stamp))
    (c.edited.ensures.stands (c.in-Some.ensures.among (told_of g.D.Disk c.args.fetch.now) shown))

pub returns-clause-among : goal.returns-clause-among
returns-clause-among g c = IfOk-weaker c.edited.result _ _ (λ at among told shown.
    among told (c.in-Some.ensures.among told shown)) c.edited.ensures.among

pub returns-clause-sound : goal.returns-clause-sound
returns-clause-sound g c = λ shown.
    c.edited.ensures.sound (c.in-Some.ensures.among (told_of g.D.Disk c.args.fetch.now) shown)
