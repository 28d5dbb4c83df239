-- The clauses of MERGE, and the entries that they see.
use Rattle.std.proofs.Common.{◌≡◌, ◌∙◌, ◌<◌, sym, ap, refl, ℕ, ◌+◌, List, [], ◌∷◌, ◌++◌, map, length, drop, take}
use Rattle.std.proofs.Common.{get_or, bytes_eq, Result, Ok, Err, IfOk, arith}
use Rattle.std.proofs.lemmas.List.{take_more, length-map}
use Rattle.wh_value.specs.Column as table
use Rattle.wh_ast.specs.declared.dml.MergeClause.{MergeClause}
use Rattle.wh_ast.specs.declared.expr.Expr.{Expr}
use Rattle.wh_meaning.specs.Scalar.{Scalar}
use Rattle.wh_naming.specs.Findings.{Name, Findings, followed, taken_if}
use Rattle.wh_naming.specs.Scope.{Named, Entry}
use Rattle.wh_naming.specs.Select.{BoundSource, SourcePart, plain, condition_findings}
use Rattle.wh_naming.specs.Changes.{Target, BoundClause, target_entry, bound_clause, clause_findings}
use Rattle.wh_naming.specs.Changes.{all_clause_findings, merged_on, bound_merge}
use Rattle.wh_scalar.specs.View.{scalar_of}
use Rattle.wh_expr_bind.specs.View.{entry_of, entries_of, findings_of}
use Rattle.wh_expr_bind.specs.declared.entries.Entry as made
use Rattle.wh_core_bind.proofs.FindingLaws.{followed_assoc, followed_nothing}
use Rattle.wh_bound_change.specs.View.{clauses_of}
use Rattle.wh_dml_bind.specs.Steps.{first_of, second_of, source_entry, merge_of}
use Rattle.wh_dml_bind.specs.View.{merge_in}
use Rattle.wh_dml_bind.specs.declared.merge.MergeParts.{MergeParts}

pub two : (es : List made.Entry) → length es ≡ 2
    → entries_of es ≡ first_of (entries_of es) ∷ second_of (entries_of es) ∷ []
two [] e = absurd (omega arith)
two (x ∷ []) e = absurd (omega arith)
two (x ∷ y ∷ []) e = refl
two (x ∷ y ∷ z ∷ es) e = absurd (omega arith)

pub second_alone : (es : List made.Entry) → length es ≡ 2 → entries_of (drop 1 es) ≡ second_of (entries_of es) ∷ []
second_alone [] e = absurd (omega arith)
second_alone (x ∷ []) e = absurd (omega arith)
second_alone (x ∷ y ∷ []) e = refl
second_alone (x ∷ y ∷ z ∷ es) e = absurd (omega arith)

findings_more : (columns : List table.Column) (t s : Entry) (cs : List MergeClause) (c : MergeClause)
    → all_clause_findings columns t s (cs ++ c ∷ [])
    ≡ followed (all_clause_findings columns t s cs) (clause_findings columns t s c)
findings_more columns t s [] c = followed_nothing (clause_findings columns t s c)
findings_more columns t s (x ∷ cs) c =
    ap (λ (f : Findings). followed (clause_findings columns t s x) f) (findings_more columns t s cs c)
    ∙ sym (followed_assoc (clause_findings columns t s x) (all_clause_findings columns t s cs)
    (clause_findings columns t s c))

pub found_turn : (columns : List table.Column) (t s : Entry) (cs : List MergeClause) (i : ℕ) (c : MergeClause)
    → i < length cs → c ≡ get_or cs i c
    → all_clause_findings columns t s (take (i + 1) cs)
    ≡ followed (all_clause_findings columns t s (take i cs)) (clause_findings columns t s c)
found_turn columns t s cs i c l is =
    let more = take_more cs i c l in
    rw (more, ← is) (findings_more columns t s (take i cs) c)

pub two_long : (es : List made.Entry) (t s : Entry) → entries_of es ≡ t ∷ s ∷ [] → length es ≡ 2
two_long es t s e = sym (length-map es entry_of) ∙ ap length e

-- a MERGE of its parts
merge_is : (t : Target) (name source : Name) (s : BoundSource) (on : Expr) (cs : List MergeClause) (both : List Entry)
    (taken found : Findings) (scalar : Scalar) (clauses : List BoundClause)
    → both ≡ target_entry name t ∷ source_entry source s ∷ [] → taken ≡ taken_if (bytes_eq name source) name
    → scalar ≡ (plain both on).scalar → clauses ≡ map (bound_clause t.columns (first_of both) (second_of both)) cs
    → found ≡ followed (condition_findings (plain both on))
    (all_clause_findings t.columns (first_of both) (second_of both) cs)
    → merge_of t s taken scalar clauses found ≡ merged_on t (target_entry name t) (source_entry source s) s on cs
merge_is t name source s on cs both taken found scalar clauses b tk sc cl f =
    let sc' : scalar ≡ (plain (target_entry name t ∷ source_entry source s ∷ []) on).scalar =
    sc ∙ ap (λ (x : List Entry). (plain x on).scalar) b in
    let cl' : clauses ≡ map (bound_clause t.columns (target_entry name t) (source_entry source s)) cs =
    cl ∙ ap (λ (x : List Entry). map (bound_clause t.columns (first_of x) (second_of x)) cs) b in
    let f' : found ≡ followed (condition_findings (plain (target_entry name t ∷ source_entry source s ∷ []) on))
    (all_clause_findings t.columns (target_entry name t) (source_entry source s) cs) =
    f ∙ ap (λ (x : List Entry). followed (condition_findings (plain x on))
    (all_clause_findings t.columns (first_of x) (second_of x) cs)) b in
    λ i. merge_of t s (tk i) (sc' i) (cl' i) (f' i)

pub merge_made : {E : Type 0} (r : Result MergeParts E) (t : Target) (name source : Name) (s : BoundSource) (on : Expr)
    (cs : List MergeClause) (both : List Entry) (taken : Findings)
    → both ≡ target_entry name t ∷ source_entry source s ∷ [] → taken ≡ taken_if (bytes_eq name source) name
    → IfOk r (λ p. findings_of p.taken ≡ taken) → IfOk r (λ p. scalar_of p.on ≡ (plain both on).scalar)
    → IfOk r (λ p. clauses_of p.clauses.items ≡ map (bound_clause t.columns (first_of both) (second_of both)) cs)
    → IfOk r (λ p. findings_of p.findings ≡ followed (condition_findings (plain both on))
    (all_clause_findings t.columns (first_of both) (second_of both) cs))
    → IfOk r (λ p. merge_in t s p ≡ merged_on t (target_entry name t) (source_entry source s) s on cs)
merge_made (Ok p) t name source s on cs both taken b is tk sc cl f =
    merge_is t name source s on cs both _ _ _ _ b (tk ∙ is) sc cl f
merge_made (Err e) t name source s on cs both taken b is tk sc cl f = tt

pub merge_read : (t : Target) (name source : Name) (part : SourcePart) (names : List Named)
    (s : BoundSource) (on : Expr) (cs : List MergeClause)
    → s ≡ part.reading names 0 → source ≡ part.name
    → merged_on t (target_entry name t) (source_entry source s) s on cs ≡ bound_merge t name part names on cs
merge_read t name source part names s on cs e n =
    λ i. merged_on t (target_entry name t) (source_entry (n i) (e i)) (e i) on cs
