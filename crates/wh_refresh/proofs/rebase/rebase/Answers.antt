use Rattle.std.proofs.Common.{◌≡◌, ℕ, sym, ap, subst, ◌∙◌, List, [], map, length, arith}
use Rattle.std.specs.FinMap.{empty, entries}
use Rattle.wh_value.specs.Value.{Row}
use Rattle.wh_meaning.specs.Bag.{no_rows}
use Rattle.wh_meaning.specs.BagChange.{IsExcess}
use Rattle.wh_state.specs.State.{Rows}
use Rattle.wh_state.specs.Edits.{Edits, edits_from, with_removed}
use Rattle.wh_moment.specs.Rebase.{rebase, kept_apart}
use Rattle.wh_table.specs.Rows.{all_rows, partitions_at}
use Rattle.wh_part.specs.View.{numbered_of}
use Rattle.wh_part.specs.declared.partition.NumberedRow.{NumberedRow}
use Rattle.wh_version.specs.Edits.{edits_in}
use Rattle.wh_refresh.specs.Walk.{Walked, walk_of, walked, nothing_walked}
use Rattle.wh_refresh.proofs.WalkLaws.{walked_apart, none_kept, gone_rises, gone_count}
use Rattle.wh_refresh.proofs.rebase.rebase.Goals as goal
use Rattle.wh_refresh.proofs.rebase.rebase.Goals.{After-drop-walk-3}

-- the walk keeps apart what the machine keeps apart
apart : (c : After-drop-walk-3) (rows : Rows) → all_rows (partitions_at c.args.old.now) ≡ entries rows
    → ((walk_of c.in_ok-walk.walk).gone ≡ (kept_apart c.args.new.now (entries rows)).gone)
    × IsExcess c.args.new.now (walk_of c.in_ok-walk.walk).kept (kept_apart c.args.new.now (entries rows)).left
apart c rows all =
    let new = c.args.new.now in
    let is = walked_apart new no_rows new [] (entries rows) (none_kept new) in
    let same : walk_of c.in_ok-walk.walk ≡ walked new (entries rows) nothing_walked =
    c.in_ok-walk.ensures ∙ ap (λ (es : List (ℕ × Row)). walked new es nothing_walked) all in (
      ap (λ (w : Walked). w.gone) same ∙ is.0,
      subst (λ (w : Walked). IsExcess new w.kept (kept_apart new (entries rows)).left) (sym same) is.1,
    )

made : (c : After-drop-walk-3) → edits_in c.in_ok-edits.edits
    ≡ edits_from c.in_ok-walk.walk.gone.items [] c.in_ok-come.come.items
made c =
    c.in_ok-edits.ensures
    ∙ ap (λ (rows : List NumberedRow). edits_from c.deref.result.now (map numbered_of rows) c.in_ok-come.come.items)
    c.new.ensures.items
    ∙ ap (λ (l : List ℕ). edits_from l [] c.in_ok-come.come.items) c.deref.ensures.value

pub returns-clause-edits : goal.returns-clause-edits
unfolding rebase
returns-clause-edits c rows all =
    let kept = kept_apart c.args.new.now (entries rows) in
    let is = apart c rows all in
    made c
    ∙ ap (λ (l : List ℕ). edits_from l [] c.in_ok-come.come.items) is.0
    ∙ ap (edits_from kept.gone []) (c.in_ok-come.ensures kept.left is.1)

pub returns-clause-plus : goal.returns-clause-plus
unfolding edits_from
returns-clause-plus c =
    let sized : c.len-plus.result ≡ length c.in_ok-come.come.items =
    omega (arith, c.len-plus.ensures, c.in_ok-come.come.ok.0) in
    sized ∙ ap (λ (e : Edits). length e.added) (sym (made c))

pub returns-clause-minus : goal.returns-clause-minus
unfolding edits_from
returns-clause-minus c rows all =
    let gone : List ℕ = (kept_apart c.args.new.now (entries rows)).gone in
    let is = apart c rows all in
    let sized : c.len-minus.result ≡ length c.in_ok-walk.walk.gone.items =
    omega (arith, c.len-minus.ensures, c.in_ok-walk.walk.gone.ok.0) in
    sized
    ∙ ap length is.0
    ∙ sym (gone_count gone (gone_rises rows c.args.new.now))
    ∙ ap (λ (l : List ℕ). length (entries (with_removed empty l))) (sym is.0)
    ∙ ap (λ (e : Edits). length (entries e.rows)) (sym (made c))
