use Rattle.std.proofs.Common.{◌≡◌, suc, length, subst, OnOk, arith}
use Rattle.std.proofs.lemmas.List.{length-map}
use Rattle.wh_algebra.specs.View.{call_of, calls_of}
use Rattle.wh_naming.specs.Select.{Shown}
use Rattle.wh_expr_bind.specs.View.{entries_of}
use Rattle.wh_core_bind.specs.View.{output_of, outputs_of, shown_in}
use Rattle.wh_core_bind.proofs.CoreLemmas.{item_same}
use Rattle.wh_core_bind.proofs.items.show_expression.Goals as goal

pub returns : goal.returns
returns c =
    let outputs = length-map c.args.shown.now.outputs.items output_of in
    let calls = length-map c.args.shown.now.calls.items call_of in
    let position : c.in-Some.position ≡ suc (length (outputs_of c.args.shown.now.outputs.items)) =
    omega (arith, outputs, c.in-Some.ensures, c.len.ensures) in
    let behind : c.len-2.result ≡ length (calls_of c.args.shown.now.calls.items) =
    omega (arith, calls, c.len-2.ensures) in
    subst (λ (m : Shown). OnOk c.add_item.result (shown_in c.add_item.new.shown ≡ m))
    (item_same (shown_in c.args.shown.now) c.args.alias.now c.args.x.now
    (entries_of c.args.entries.now) _ _ _ _ c.in_ok-name.ensures c.in_ok-x.ensures position behind)
    c.add_item.ensures
