-- What one layer of a query stands for, over its parts.
use Rattle.std.proofs.Common.{◌≡◌, ◌∙◌, ◌<◌, ◌≤◌, sym, ap, refl, ℕ, suc, ◌+◌, List, [], ◌∷◌, map, length, drop, get_or}
use Rattle.std.proofs.Common.{Option, Some, None, Result, Ok, Err, IfOk, add-one, drop-cons}
use Rattle.std.proofs.lemmas.List.{drop_all}
use Rattle.std.specs.declared.alloc.AllocError.{AllocError}
use Rattle.wh_value.proofs.ListLaws.{drop_here}
use Rattle.wh_ast.specs.declared.expr.Expr.{Expr}
use Rattle.wh_ast.specs.declared.query.Item.{Item}
use Rattle.wh_ast.specs.declared.query.Core.{Core, out-Core, fold_out-Core}
use Rattle.wh_ast.specs.declared.query.FromItem as FromItem
use Rattle.wh_ast.specs.declared.query.FromItem.{fold_out-FromItem}
use Rattle.wh_ast.specs.declared.query.FromItem.TheVariants.{rolls-Subquery}
use Rattle.wh_ast.specs.declared.query.FromItem.TheOpen.{FromItem-F}
use Rattle.wh_ast.specs.declared.query.Join.{Join, out-Join, fold_out-Join}
use Rattle.wh_ast.specs.declared.query.Query.{Query, out-Query, fold_out-Query}
use Rattle.wh_naming.specs.Findings.{Name}
use Rattle.wh_naming.specs.Scope.{Named}
use Rattle.wh_naming.specs.Select.{BoundQuery, BoundSource, Joined, no_query, named_source, SourcePart, QueryReading}
use Rattle.wh_naming.specs.Select.{JoinPart, source_step, core_step, join_step, query_step}
use Rattle.wh_bind.specs.Steps.{started, entered, joined_on, core_over, gathered, after_core, number_behind, as_source}
use Rattle.wh_core_bind.specs.View.{query_in}
use Rattle.wh_bind.specs.View.{source_in, source_part, join_part, core_reading, query_reading}
use Rattle.wh_core_bind.specs.declared.parts.BoundQuery.{BoundQuery as Code}
use Rattle.wh_bind.specs.declared.sources.BoundSource.{BoundSource as CodeSource}

pub core_is : (c : Core) (names : List Named) (next : ℕ)
    → core_over (out-Core c).items (joined_on names next (started (source_part (out-Core c).from) (map join_part
    (out-Core c).joins) ((source_part (out-Core c).from).reading names next)) (map join_part (out-Core c).joins))
    (out-Core c).filter (out-Core c).group
    ≡ core_reading c names next
unfolding core_over joined_on started core_reading source_part join_part core_step
core_is c names next = sym (ap (λ (r : QueryReading). r names next)
    (fold_out-Core SourcePart QueryReading JoinPart QueryReading source_step core_step join_step query_step c))

pub query_is : (q : Query) (names : List Named) (next : ℕ)
    → gathered names next None (map core_reading (out-Query q).cores) ≡ query_reading q names next
unfolding gathered core_reading query_reading query_step
query_is q names next = sym (ap (λ (r : QueryReading). r names next)
    (fold_out-Query SourcePart QueryReading JoinPart QueryReading source_step core_step join_step query_step q))

pub join_source : (j : Join) → (join_part j).source ≡ source_part (out-Join j).source
unfolding source_part join_part join_step
join_source j = ap (λ (p : JoinPart). p.source)
    (fold_out-Join SourcePart QueryReading JoinPart QueryReading source_step core_step join_step query_step j)

-- one core more
pub one_core : (names : List Named) (next : ℕ) (so_far : Option BoundQuery) (r : QueryReading) (rs : List QueryReading)
    → gathered names next so_far (r ∷ rs)
    ≡ gathered names next (Some (after_core so_far (r names (number_behind next so_far)))) rs
unfolding gathered after_core number_behind
one_core names next None r rs = refl
one_core names next (Some q) r rs = refl

pub no_core : (names : List Named) (next : ℕ) (q : BoundQuery) → gathered names next (Some q) [] ≡ q
unfolding gathered
no_core names next q = refl

pub nothing_gathered : (names : List Named) (next : ℕ) → gathered names next None [] ≡ no_query
unfolding gathered
nothing_gathered names next = refl

-- one join more
pub one_join : (names : List Named) (next : ℕ) (left : Joined) (j : JoinPart) (js : List JoinPart)
    → joined_on names next left (j ∷ js)
    ≡ joined_on names next (entered left j js (j.source.reading names (next + length left.sources))) js
unfolding joined_on entered
one_join names next left j js = refl

pub no_join : (names : List Named) (next : ℕ) (left : Joined) → joined_on names next left [] ≡ left
unfolding joined_on
no_join names next left = refl

pub cores_step : (names : List Named) (next : ℕ) (so_far : Option BoundQuery) (cs : List Core)
    (i : ℕ) (c : Core) (core both : BoundQuery)
    → i < length cs → c ≡ get_or cs i c → core ≡ core_reading c names (number_behind next so_far)
    → both ≡ after_core so_far core
    → gathered names next (Some both) (map core_reading (drop (i + 1) cs))
    ≡ gathered names next so_far (map core_reading (drop i cs))
cores_step names next so_far cs i c core both lt is e f =
    ap (λ q. gathered names next (Some q) (map core_reading (drop (i + 1) cs))) (f ∙ ap (after_core so_far) e)
    ∙ sym (one_core names next so_far (core_reading c) (map core_reading (drop (i + 1) cs)))
    ∙ ap (λ xs. gathered names next so_far (map core_reading xs)) (sym (drop_here cs i c lt is))

pub cores_end : (names : List Named) (next : ℕ) (q whole : BoundQuery) (cs : List Core) (i : ℕ) → length cs ≤ i
    → gathered names next (Some q) (map core_reading (drop i cs)) ≡ whole → q ≡ whole
cores_end names next q whole cs i le e = sym (no_core names next q)
    ∙ ap (λ xs. gathered names next (Some q) (map core_reading xs)) (sym (drop_all i cs le)) ∙ e

pub cores_none : (names : List Named) (next : ℕ) (whole : BoundQuery) (cs : List Core)
    (i : ℕ) (r : Result Code AllocError)
    → length cs ≤ i → gathered names next None (map core_reading (drop i cs)) ≡ whole
    → IfOk r (λ q. query_in q ≡ no_query)
    → IfOk r (λ q. query_in q ≡ whole)
cores_none names next whole cs i (Ok q) le e h = h ∙ sym (nothing_gathered names next)
    ∙ ap (λ xs. gathered names next None (map core_reading xs)) (sym (drop_all i cs le)) ∙ e
cores_none names next whole cs i (Err x) le e h = h

pub joins_step : (names : List Named) (next : ℕ) (left : Joined) (js behind : List Join)
    (i number : ℕ) (j : Join) (s : BoundSource) (more : Joined)
    → i < length js → j ≡ get_or js i j → behind ≡ drop (i + 1) js → number ≡ next + length left.sources
    → s ≡ (source_part (out-Join j).source).reading names number
    → more ≡ entered left (join_part j) (map join_part behind) s
    → joined_on names next more (map join_part (drop (i + 1) js))
    ≡ joined_on names next left (map join_part (drop i js))
joins_step names next left js behind i number j s more lt is b n e f =
    ap (λ l. joined_on names next l (map join_part (drop (i + 1) js)))
    (f ∙ ap (λ bs. entered left (join_part j) (map join_part bs) s) b
    ∙ ap (entered left (join_part j) (map join_part (drop (i + 1) js)))
    (e ∙ ap (λ (p : SourcePart). p.reading names number) (sym (join_source j))
    ∙ ap ((join_part j).source.reading names) n))
    ∙ sym (one_join names next left (join_part j) (map join_part (drop (i + 1) js)))
    ∙ ap (λ xs. joined_on names next left (map join_part xs)) (sym (drop_here js i j lt is))

pub joins_end : (names : List Named) (next : ℕ) (left whole : Joined) (js : List Join) (i : ℕ) → length js ≤ i
    → joined_on names next left (map join_part (drop i js)) ≡ whole → left ≡ whole
joins_end names next left whole js i le e = sym (no_join names next left)
    ∙ ap (λ xs. joined_on names next left (map join_part xs)) (sym (drop_all i js le)) ∙ e

pub core_of : (c : Core) (names : List Named) (next : ℕ) (s : BoundSource) (first joined : Joined) (joins : List Join)
    (items : List Item) (group : List Expr) (r : Result Code AllocError)
    → joins ≡ (out-Core c).joins → items ≡ (out-Core c).items → group ≡ (out-Core c).group
    → s ≡ (source_part (out-Core c).from).reading names next
    → first ≡ started (source_part (out-Core c).from) (map join_part joins) s
    → joined ≡ joined_on names next first (map join_part joins)
    → IfOk r (λ q. query_in q ≡ core_over items joined (out-Core c).filter group)
    → IfOk r (λ q. query_in q ≡ core_reading c names next)
core_of c names next s first joined joins items group (Ok q) js is gs e f g h =
    let from = (out-Core c).from in
    let filter = (out-Core c).filter in
    h ∙ ap (λ l. core_over items l filter group) (g ∙ ap (λ l. joined_on names next l (map join_part joins))
    (f ∙ ap (started (source_part from) (map join_part joins)) e))
    ∙ ap (λ ks. core_over items (joined_on names next (started (source_part from) (map join_part ks)
    ((source_part from).reading names next)) (map join_part ks)) filter group) js
    ∙ ap (λ xs. core_over xs (joined_on names next (started (source_part from) (map join_part (out-Core c).joins)
    ((source_part from).reading names next)) (map join_part (out-Core c).joins)) filter group) is
    ∙ ap (core_over (out-Core c).items (joined_on names next (started (source_part from) (map join_part
    (out-Core c).joins) ((source_part from).reading names next)) (map join_part (out-Core c).joins)) filter) gs
    ∙ core_is c names next
core_of c names next s first joined joins items group (Err x) js is gs e f g h = h

pub query_of_cores : (q : Query) (names : List Named) (next : ℕ) (cores : List Core) (r : Result Code AllocError)
    → cores ≡ (out-Query q).cores → IfOk r (λ b. query_in b ≡ gathered names next None (map core_reading cores))
    → IfOk r (λ b. query_in b ≡ query_reading q names next)
query_of_cores q names next cores (Ok b) e h = h ∙ ap (λ cs. gathered names next None (map core_reading cs)) e
    ∙ query_is q names next
query_of_cores q names next cores (Err x) e h = h

named_is : (name : Name) (alias : Option Name) (names : List Named) (number : ℕ)
    → (source_part (FromItem.Named name alias)).reading names number ≡ named_source name names number
unfolding source_part source_step FromItem.out-FromItem denote.Hole.Carrier.out
named_is name alias names number = ap (λ (p : SourcePart). p.reading names number) (fold_out-FromItem SourcePart
    QueryReading JoinPart QueryReading source_step core_step join_step query_step (FromItem.Named name alias))

subquery_is : (q : Query) (alias : Name) (names : List Named) (number : ℕ)
    → (source_part (FromItem.Subquery q alias)).reading names number ≡ as_source (query_reading q names number)
unfolding source_part source_step query_reading as_source
subquery_is q alias names number =
    ap (λ s. (source_part s).reading names number) (sym (rolls-Subquery q alias))
    ∙ ap (λ (p : SourcePart). p.reading names number) (FromItem.fold-roll-FromItem SourcePart QueryReading JoinPart
    QueryReading source_step core_step join_step query_step (FromItem-F.Subquery q alias))

pub named_read : (s : FromItem.FromItem) (name : Name) (alias : Option Name) (names : List Named)
    (number : ℕ) (r : Result CodeSource AllocError)
    → s ≡ FromItem.Named name alias → IfOk r (λ x. source_in x ≡ named_source name names number)
    → IfOk r (λ x. source_in x ≡ (source_part s).reading names number)
named_read s name alias names number (Ok x) e h = h ∙ sym (named_is name alias names number)
    ∙ ap (λ y. (source_part y).reading names number) (sym e)
named_read s name alias names number (Err x) e h = h

pub subquery_read : (s : FromItem.FromItem) (q : Query) (alias : Name) (names : List Named)
    (number : ℕ) (bound : BoundQuery) (r : Result CodeSource AllocError)
    → s ≡ FromItem.Subquery q alias → bound ≡ query_reading q names number → IfOk r (λ x. source_in x ≡ as_source bound)
    → IfOk r (λ x. source_in x ≡ (source_part s).reading names number)
subquery_read s q alias names number bound (Ok x) e f h =
    h ∙ ap as_source f ∙ sym (subquery_is q alias names number) ∙ ap (λ y. (source_part y).reading names number) (sym e)
subquery_read s q alias names number bound (Err x) e f h = h

pub join_on : (j : Join) → (join_part j).on ≡ (out-Join j).on
unfolding join_part join_step
join_on j = ap (λ (p : JoinPart). p.on)
    (fold_out-Join SourcePart QueryReading JoinPart QueryReading source_step core_step join_step query_step j)
