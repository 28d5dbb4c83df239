use Rattle.std.proofs.Common.{◌≡◌, ◌+◌, ◌∙◌, ap, List, length, arith}
use Rattle.wh_frame.specs.Partition.{Partition}
use Rattle.wh_state.specs.Edits.{by_rows, made_of}
use Rattle.wh_filed.specs.Filed.{contents_at}
use Rattle.wh_version.proofs.ByRows.{turned}
use Rattle.wh_version.proofs.Left.{lefts}
use Rattle.wh_version.proofs.Made.{made_all}
use Rattle.wh_version.proofs.rewriting.made.Goals as goal

pub returns : goal.returns
returns c =
    let next = c.args.next in
    let rows = c.args.edits.rows in
    let first = c.in_ok-made.made.items in
    let sized = c.in_ok-made.made.ok.0 in
    let left : List Partition = made_of next (lefts rows (by_rows (contents_at c.args.touched.now))) in
    let first_is : first ≡ left =
    c.in_ok-made.ensures
    ∙ ap (λ ps. made_of next (lefts rows ps)) (ap turned c.deref.ensures.value ∙ c.in_ok-sorted.ensures) in
    let behind_is : next + c.len.result ≡ next + length first = omega (arith, c.len.ensures) in
    made_all next c.args.next_row c.args.edits.added.items left c.append.new.self.items first c.in_ok-more.more.items _
    first_is behind_is c.in_ok-more.ensures.parts c.in_ok-append.ensures.items
