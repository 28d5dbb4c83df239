use Rattle.std.proofs.Common.{◌≡◌, ◌∙◌, ◌++◌, ◌||◌, ap, sym, map}
use Rattle.wh_ast.specs.declared.query.Join.{out-Join}
use Rattle.wh_expr_bind.specs.View.{entries_of, findings_of}
use Rattle.wh_algebra.specs.View.{query_of}
use Rattle.wh_scalar.specs.View.{scalar_of}
use Rattle.wh_core_bind.specs.View.{joined_in}
use Rattle.wh_bind.specs.View.{join_part, source_in}
use Rattle.wh_meaning.specs.Query as meaning
use Rattle.wh_naming.specs.Findings.{followed, taken_if}
use Rattle.wh_naming.specs.Select.{plain, comes_again, condition_findings}
use Rattle.wh_bind.specs.Steps.{more_entries}
use Rattle.wh_bind.proofs.Layers.{join_source, join_on}
use Rattle.wh_bind.proofs.Entering.{parts_entered}
use Rattle.wh_bind.proofs.joins.with_entry.Goals as goal

pub returns : goal.returns
unfolding joined_in source_in
returns c =
    let name : c.in_ok-name.name ≡ (join_part c.args.join.now).source.name =
    c.in_ok-name.ensures ∙ c.source_name-name.ensures ∙ ap (λ p. p.name) (sym (join_source c.args.join.now)) in
    let on = (out-Join c.args.join.now).on in
    let left = c.into_inner-left.ensures in
    let source = c.into_inner-source.ensures in
    let taken = findings_of c.in_ok-taken.taken in
    let wrong = findings_of c.in_ok-on.on.findings in
    let scalar = scalar_of c.in_ok-on.on.scalar in
    parts_entered c.new-3.result _ (joined_in c.args.left) (join_part c.args.join.now) (map join_part c.args.behind.now)
    (source_in c.args.source) c.in_ok-name.name on taken wrong scalar
    name (sym (join_on c.args.join.now))
    (c.in_ok-entries.ensures
    ∙ (λ i. more_entries (joined_in (left i)).entries c.in_ok-name.name (source_in (source i)).columns))
    (c.in_ok-on.ensures.scalar ∙ ap (λ es. (plain (entries_of es) on).scalar) c.deref-3.ensures.value)
    (c.joined_rows-query.ensures
    ∙ (λ i. meaning.Join ((ap query_of c.in_ok-above.ensures ∙ (λ k. (joined_in (left k)).query)) i)
    ((ap query_of c.in_ok-below.ensures ∙ (λ k. (source_in (source k)).query)) i) scalar))
    (c.in_ok-sources.ensures ∙ (λ i. (c.deref.ensures.value ∙ ap (λ l. l.sources.items) c.get.ensures) i
    ++ (c.deref-2.ensures.value ∙ ap (λ s. s.sources.items) c.get-2.ensures) i))
    (c.in_ok-taken.ensures
    ∙ ap (λ m. taken_if (comes_again m (map join_part c.args.behind.now)) m) (sym c.in_ok-name.ensures))
    (c.in_ok-on.ensures.findings ∙ ap (λ es. condition_findings (plain (entries_of es) on)) c.deref-3.ensures.value)
    (c.followed-2.ensures ∙ (λ i. followed (joined_in (left i)).findings ((c.followed-found.ensures ∙ ap
    (λ f. followed f wrong) (c.followed.ensures ∙ (λ k. followed (source_in (source k)).findings taken))) i)))
    (c.either.ensures ∙ (λ i. (joined_in (left i)).is_wide || (source_in (source i)).is_wide))
    c.new-3.ensures
