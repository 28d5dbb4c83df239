use Rattle.std.proofs.Common.{◌≡◌, List, subst, ap, ◌∙◌, IfOk}
use Rattle.wh_algebra.specs.View.{calls_of, scalars_of}
use Rattle.wh_algebra.specs.declared.query.Call.{Call}
use Rattle.wh_naming.specs.Scope.{width}
use Rattle.wh_naming.specs.Select.{BoundQuery, is_grouped, key_scalars, key_findings}
use Rattle.wh_expr_bind.specs.View.{entries_of, findings_of}
use Rattle.wh_expr_bind.specs.declared.entries.Entry.{Entry}
use Rattle.wh_core_bind.specs.declared.parts.Joined.{Joined}
use Rattle.wh_core_bind.specs.declared.shown.Shown.{Shown}
use Rattle.wh_core_bind.specs.declared.keys.GroupKeys.{GroupKeys}
use Rattle.wh_core_bind.specs.View.{joined_in, query_in, shown_in}
use Rattle.wh_core_bind.proofs.CoreLemmas.{core_from}
use Rattle.wh_core_bind.proofs.bound.core_of.Goals as goal

pub returns : goal.returns
unfolding joined_in
returns c =
    let group = c.args.group.now in
    let rows = c.in_ok-rows.ensures in
    let entries : c.deref-3.result.now ≡ c.args.joined.entries.items =
    c.deref-3.ensures.value ∙ ap (λ (j : Joined). j.entries.items) c.get-3.ensures in
    subst (λ (m : BoundQuery). IfOk c.finished.result (λ q. query_in q ≡ m))
    (core_from (joined_in c.args.joined) c.args.filter.now group (shown_in c.args.shown) _ _ _ _ _ _ _ _
    (c.is_grouped-is_grouped.ensures ∙ ap (λ (cs : List Call). is_grouped group (calls_of cs))
    (c.deref.ensures.value ∙ ap (λ (s : Shown). s.calls.items) c.get.ensures))
    rows.query rows.sources rows.wide rows.findings
    (ap (λ (k : GroupKeys). scalars_of k.scalars.items) c.in_ok-keys.ensures ∙ c.in_ok-group_keys.ensures.scalars
    ∙ ap (λ (es : List Entry). key_scalars (entries_of es) group) entries)
    (ap (λ (k : GroupKeys). findings_of k.findings) c.in_ok-keys.ensures ∙ c.in_ok-group_keys.ensures.findings
    ∙ ap (λ (es : List Entry). key_findings (entries_of es) group) entries)
    (c.in_ok-width.ensures ∙ ap (λ (es : List Entry). width (entries_of es))
    (c.deref-2.ensures.value ∙ ap (λ (j : Joined). j.entries.items) c.get-2.ensures)))
    c.finished.ensures
