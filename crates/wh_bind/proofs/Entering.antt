-- One entry more, from its parts.
use Rattle.std.proofs.Common.{◌≡◌, ◌∙◌, ap, ◌++◌, ◌||◌, List, Result, Ok, Err, IfOk}
use Rattle.std.specs.declared.alloc.AllocError.{AllocError}
use Rattle.wh_ast.specs.declared.expr.Expr.{Expr}
use Rattle.wh_meaning.specs.Scalar.{Scalar}
use Rattle.wh_meaning.specs.Query as meaning
use Rattle.wh_algebra.specs.View.{query_of}
use Rattle.wh_expr_bind.specs.View.{entries_of, findings_of}
use Rattle.wh_naming.specs.Findings.{Name, Findings, followed, taken_if}
use Rattle.wh_naming.specs.Scope.{Entry}
use Rattle.wh_naming.specs.Select.{BoundSource, Joined, JoinPart, part_name, comes_again, plain, condition_findings}
use Rattle.wh_core_bind.specs.declared.parts.Joined.{Joined as Code}
use Rattle.wh_core_bind.specs.View.{joined_in}
use Rattle.wh_bind.specs.Steps.{entered, more_entries}

pub parts_entered : (r : Result Code AllocError) (value : Code) (left : Joined) (j : JoinPart) (behind : List JoinPart)
    (s : BoundSource) (name : Name) (on : Expr) (taken wrong : Findings) (scalar : Scalar)
    → name ≡ part_name j → on ≡ j.on → entries_of value.entries.items ≡ more_entries left.entries name s.columns
    → scalar ≡ (plain (entries_of value.entries.items) on).scalar
    → query_of value.query ≡ meaning.Join left.query s.query scalar → value.sources.items ≡ left.sources ++ s.sources
    → taken ≡ taken_if (comes_again name behind) name
    → wrong ≡ condition_findings (plain (entries_of value.entries.items) on)
    → findings_of value.findings ≡ followed left.findings (followed (followed s.findings taken) wrong)
    → value.is_wide ≡ left.is_wide || s.is_wide → IfOk r (λ b. b ≡ value)
    → IfOk r (λ b. joined_in b ≡ entered left j behind s)
unfolding joined_in entered
parts_entered (Err x) value left j behind s name on taken wrong scalar n o es sc q ids t w f wide h = h
parts_entered (Ok b) value left j behind s name on taken wrong scalar n o es sc q ids t w f wide h =
    let es' : entries_of value.entries.items ≡ more_entries left.entries (part_name j) s.columns =
    es ∙ ap (λ (m : Name). more_entries left.entries m s.columns) n in
    let sc' : scalar ≡ (plain (more_entries left.entries (part_name j) s.columns) j.on).scalar =
    sc ∙ ap (λ (x : List Entry). (plain x on).scalar) es'
    ∙ ap (λ (y : Expr). (plain (more_entries left.entries (part_name j) s.columns) y).scalar) o in
    let w' : wrong ≡ condition_findings (plain (more_entries left.entries (part_name j) s.columns) j.on) =
    w ∙ ap (λ (x : List Entry). condition_findings (plain x on)) es'
    ∙ ap (λ (y : Expr). condition_findings (plain (more_entries left.entries (part_name j) s.columns) y)) o in
    let t' : taken ≡ taken_if (comes_again (part_name j) behind) (part_name j) =
    t ∙ ap (λ (m : Name). taken_if (comes_again m behind) m) n in
    let f' : findings_of value.findings ≡ followed left.findings
    (followed (followed s.findings (taken_if (comes_again (part_name j) behind) (part_name j)))
    (condition_findings (plain (more_entries left.entries (part_name j) s.columns) j.on))) =
    f ∙ ap (λ (x : Findings). followed left.findings (followed (followed s.findings x) wrong)) t'
    ∙ ap (λ (x : Findings). followed left.findings
    (followed (followed s.findings (taken_if (comes_again (part_name j) behind) (part_name j))) x)) w' in
    let q' : query_of value.query
    ≡ meaning.Join left.query s.query (plain (more_entries left.entries (part_name j) s.columns) j.on).scalar =
    q ∙ ap (meaning.Join left.query s.query) sc' in
    ap joined_in h ∙ (λ i. record { query = q' i; entries = es' i; sources = ids i; findings = f' i; is_wide = wide i })
