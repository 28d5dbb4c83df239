use Rattle.std.proofs.Common.{◌≡◌, List, subst, ap, ◌∙◌, IfOk}
use Rattle.wh_naming.specs.Select.{BoundQuery, core_of, all_shown, nothing_shown}
use Rattle.wh_expr_bind.specs.View.{entries_of}
use Rattle.wh_expr_bind.specs.declared.entries.Entry.{Entry}
use Rattle.wh_core_bind.specs.declared.parts.Joined.{Joined}
use Rattle.wh_core_bind.specs.View.{joined_in, query_in, shown_in}
use Rattle.wh_core_bind.proofs.bound.bound_core.Goals as goal

pub returns : goal.returns
unfolding joined_in
returns c =
    let items = c.args.items.now in
    let entries : c.deref.result.now ≡ c.args.joined.entries.items =
    c.deref.ensures.value ∙ ap (λ (j : Joined). j.entries.items) (c.get.ensures ∙ c.in_ok-joined.ensures) in
    let shown : shown_in c.in_ok-shown.shown ≡ all_shown (entries_of c.args.joined.entries.items) nothing_shown items =
    ap shown_in c.in_ok-shown.ensures ∙ c.in_ok-all_shown.ensures
    ∙ ap (λ (es : List Entry). all_shown (entries_of es) nothing_shown items) entries in
    subst (λ (m : BoundQuery). IfOk c.core_of.result (λ q. query_in q ≡ m))
    (λ i. core_of (joined_in (c.in_ok-joined.ensures i)) c.args.filter.now c.args.group.now (shown i))
    c.core_of.ensures
