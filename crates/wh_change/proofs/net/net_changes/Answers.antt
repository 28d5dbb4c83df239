use Rattle.std.proofs.Common.{◌≡◌, ◌∙◌, ap}
use Rattle.std.specs.FinMap.{entries}
use Rattle.wh_filed.specs.Filed.{loaded_of}
use Rattle.wh_state.specs.Stored.{rows_of}
use Rattle.wh_table.specs.Rows.{all_rows, partitions_at}
use Rattle.wh_change.specs.Rows.{entries_at}
use Rattle.wh_change.proofs.LoadedLaws.{holds_alone, net_so}
use Rattle.wh_change.proofs.net.net_changes.Goals as goal

pub returns : goal.returns
returns c old new turned =
    let went = loaded_of c.args.turned.now.went.items in
    let came = loaded_of c.args.turned.now.came.items in
    let is_went : entries_at c.deref-5.result.now ≡ entries (rows_of went) = ap entries_at c.deref-5.ensures.value
    ∙ c.in_ok-old.ensures ∙ ap (λ ps. all_rows (partitions_at ps)) c.deref-3.ensures.value
    ∙ c.in_ok-went.ensures.rows (rows_of went)
    (holds_alone went _ (ap loaded_of c.deref.ensures.value) turned.went_apart) in
    let is_came : entries_at c.deref-6.result.now ≡ entries (rows_of came) = ap entries_at c.deref-6.ensures.value
    ∙ c.in_ok-new.ensures ∙ ap (λ ps. all_rows (partitions_at ps)) c.deref-4.ensures.value
    ∙ c.in_ok-came.ensures.rows (rows_of came)
    (holds_alone came _ (ap loaded_of c.deref-2.ensures.value) turned.came_apart) in
    c.in_ok-records.ensures ∙ net_so went came old new _ _ turned is_went is_came
