use Rattle.std.proofs.Common.{◌≡◌, Some, option_map, sym, ap, ◌∙◌}
use Rattle.wh_dml.specs.View.{effect_of}
use Rattle.wh_machine.specs.Transaction as machine
use Rattle.wh_version.specs.Edits.{edits_in}
use Rattle.wh_txn.specs.View.{transaction_of}
use Rattle.wh_txn.proofs.TableLemmas.{staged_is}
use Rattle.wh_txn.proofs.staging.stage.Goals as goal

pub returns-in_ok-stage-in-Some-clause-ok : goal.returns-in_ok-stage-in-Some-clause-ok
returns-in_ok-stage-in-Some-clause-ok c = λ t opened.
    let e = effect_of c.args.effect in
    let here : Some (transaction_of c.in-Some.transaction) ≡ Some t =
    ap (option_map transaction_of) (sym c.in-Some.is) ∙ opened in
    let is : transaction_of c.in-Some.transaction ≡ t = cc in
    ap Some (c.in_ok-stage-in-Some.ensures.ok
    ∙ staged_is (transaction_of c.in-Some.transaction) c.args.id c.args.streams.now c.args.next_row
    (edits_in c.in_ok-later.later) c.is_some_counted-touches.result e c.in_ok-later.ensures
    c.is_some_counted-touches.ensures
    ∙ ap (λ (one : machine.Transaction). machine.staged one c.args.id c.args.streams.now c.args.next_row e) is)
