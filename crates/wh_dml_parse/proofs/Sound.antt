-- What is read is what the rules say.
use Rattle.std.proofs.Common.{◌≡◌, ℕ, suc, ◌-◌, ◌==◌, Bool, true, false, if◌then◌else◌, List, [], ◌∷◌, Option, Some}
use Rattle.std.proofs.Common.{None, length, refl, sym, ap, ◌∙◌, subst, arith}
use Rattle.std.specs.Prelude.{codes}
use Rattle.std.proofs.lemmas.Bool.Decides.{Decides-eqb, not_from_Decides}
use Rattle.wh_ast.specs.declared.dml.Rows.TheVariants as rows
use Rattle.wh_ast.specs.declared.dml.MergeClause.{MergeClause}
use Rattle.wh_ast.specs.declared.dml.MergeClause.TheVariants as clause
use Rattle.wh_ast.specs.declared.dml.Dml.{Dml}
use Rattle.wh_ast.specs.declared.dml.Dml.TheVariants as dml
use Rattle.wh_grammar.specs.Token.{Token, Word}
use Rattle.wh_grammar.specs.Name.{IsName}
use Rattle.wh_grammar.specs.Expression.{IsExpr, AreExprs}
use Rattle.wh_grammar.specs.Query.{IsQuery, IsSource, MayHaveAlias, MayHaveFilter}
use Rattle.wh_grammar.specs.Changing as g
use Rattle.wh_grammar.specs.Changing.{AreNames, MayHaveColumns, IsValuesRow, AreValuesRows, AreRows, IsAssignment}
use Rattle.wh_grammar.specs.Changing.{AreAssignments, MayHaveCondition, IsMergeClause, AreMergeClauses, IsDml}
use Rattle.wh_cursor.specs.declared.key.TokenClass.TheVariants as k
use Rattle.wh_cursor.specs.Steps.{tail, read_name}
use Rattle.wh_expr_parse.specs.Read.{read_expr}
use Rattle.wh_cursor.proofs.Yields.{Yields, yields, nothing, yields_law, follow, mapped}
use Rattle.wh_cursor.proofs.Combine.{then_expect_word, then_expect_key, if_eaten_word}
use Rattle.wh_cursor.proofs.Combine.{if_eaten_key, name-yields, end-yields}
use Rattle.wh_cursor.proofs.ListLemmas.{some-sound, listed-sound}
use Rattle.wh_expr_parse.proofs.ExprSteps.{expr-yields, exprs-yields}
use Rattle.wh_query_parse.specs.Read.{read_query, read_source, read_alias, read_filter}
use Rattle.wh_query_parse.proofs.Reading.{queries_read, sources_read, aliases_read, filters_read}
use Rattle.wh_dml_parse.specs.Follow.{IsDmlAt, AreNamesAt}
use Rattle.wh_dml_parse.specs.Read.{read_names, columns_by, read_columns, row_within, read_values_row, read_values_rows}
use Rattle.wh_dml_parse.specs.Read.{rows_by, read_rows, read_assignment, read_assignments, condition_by, read_condition}
use Rattle.wh_dml_parse.specs.Read.{change_by, read_matched, read_unmatched, clause_by, read_clause, peek_word}
use Rattle.wh_dml_parse.specs.Read.{read_clauses, read_insert, read_update, read_delete, read_merge, merge_by}
use Rattle.wh_dml_parse.specs.Read.{delete_by, update_by, insert_by, read_change, read_dml}
use Rattle.wh_dml_parse.proofs.Several.{none-ends}

-- a rule behind the tokens that were taken
behind : (P : List Token → Type 0) {ts us : List Token} → ts ≡ us → P us → P ts
behind P is h = subst P (sym is) h

expr-sound : (d : ℕ) (ts : List Token) → Yields (read_expr d ts) (λ x us. IsExpr d ts x us)
expr-sound d ts = mapped (expr-yields d ts) (λ x us h. h.expr)

-- ---- lists with commas

pub names-sound : (ts : List Token) → Yields (read_names ts) (λ names us. AreNamesAt ts names us)
unfolding read_names
names-sound = listed-sound read_name IsName AreNamesAt name-yields
    (λ ts us x h end. record { names = g.last_name h; ends = none-ends us end })
    (λ ts us vs x xs h l. record { names = g.more_names h l.names; ends = l.ends })

row_within-sound : (d : ℕ) (ts : List Token) → Yields (row_within d ts) (λ xs us. IsValuesRow (suc d) ts xs us)
row_within-sound d ts = then_expect_key k.LParen ts _
    (λ opened. follow (exprs-yields d (tail ts)) (λ xs us h. then_expect_key k.RParen us _ (λ closed.
    yields xs (tail us) (behind (λ ts. IsValuesRow (suc d) ts xs (tail us)) opened
    (g.values_row (subst (λ (us : List Token). AreExprs d (tail ts) xs us) closed h))))))

row-sound : (d : ℕ) (ts : List Token) → Yields (read_values_row d ts) (λ xs us. IsValuesRow d ts xs us)
unfolding read_values_row
row-sound d ts = by (d == 0) refl
  where
    by : (r : Bool) → (d == 0) ≡ r
        → Yields ((if r then (λ _. None) else row_within (d - 1)) ts) (λ xs us. IsValuesRow d ts xs us)
    by true e = nothing
    by false e =
        let some = not_from_Decides (d == 0) (Decides-eqb d 0) e in
        let deeper : suc (d - 1) ≡ d = omega (arith, some) in
        subst (λ (n : ℕ). Yields (row_within (d - 1) ts) (λ xs us. IsValuesRow n ts xs us)) deeper
        (row_within-sound (d - 1) ts)

values-sound : (d : ℕ) (ts : List Token) → Yields (read_values_rows d ts) (λ found us. AreValuesRows d ts found us)
unfolding read_values_rows
values-sound d = listed-sound (read_values_row d) (IsValuesRow d) (AreValuesRows d) (row-sound d)
    (λ ts us x h end. g.last_row h) (λ ts us vs x xs h l. g.more_rows h l)

assignment-sound : (d : ℕ) (ts : List Token) → Yields (read_assignment d ts) (λ a us. IsAssignment d ts a us)
unfolding read_assignment
assignment-sound d ts = follow (name-yields ts)
    (λ column us h. then_expect_key k.Equal us _ (λ equal. follow (expr-sound d (tail us)) (λ value vs i.
    yields _ vs (g.assignment (subst (λ (us : List Token). IsName ts column us) equal h) i))))

assignments-sound : (d : ℕ) (ts : List Token) → Yields (read_assignments d ts) (λ set us. AreAssignments d ts set us)
unfolding read_assignments
assignments-sound d = listed-sound (read_assignment d) (IsAssignment d) (AreAssignments d) (assignment-sound d)
    (λ ts us x h end. g.last_assignment h)
    (λ ts us vs x xs h l. g.more_assignments h l)

-- ---- clauses of MERGE

columns-sound : (ts : List Token) → Yields (read_columns ts) (λ names us. MayHaveColumns ts names us)
unfolding read_columns
columns-sound ts = if_eaten_key k.LParen ts columns_by
    (λ opened. follow (names-sound (tail ts)) (λ names us h. then_expect_key k.RParen us _ (λ closed.
    yields _ (tail us) (behind (λ ts. MayHaveColumns ts (Some names) (tail us)) opened
    (g.columns (subst (λ (us : List Token). AreNames (tail ts) names us) closed h.names))))))
    (λ _. yields None ts g.no_columns)

condition-sound : (d : ℕ) (ts : List Token)
    → Yields (read_condition d ts) (λ condition us. MayHaveCondition d ts condition us)
unfolding read_condition
condition-sound d ts = if_eaten_word (codes "AND") ts (condition_by d)
    (λ and. follow (expr-sound d (tail ts)) (λ x us h. then_expect_word (codes "THEN") us _ (λ then_.
    yields _ (tail us) (behind (λ ts. MayHaveCondition d ts (Some x) (tail us)) and
    (g.a_condition (subst (λ (us : List Token). IsExpr d (tail ts) x us) then_ h))))))
    (λ _. then_expect_word (codes "THEN") ts _
    (λ then_. yields None (tail ts) (behind (λ us. MayHaveCondition d us None (tail ts)) then_ g.no_condition)))

matched-sound : (d : ℕ) (ts : List Token)
    → Yields (read_matched d ts) (λ c us. IsMergeClause d (Word (codes "WHEN") ∷ Word (codes "MATCHED") ∷ ts) c us)
unfolding read_matched
matched-sound d ts =
    follow (condition-sound d ts) (λ condition us h. if_eaten_word (codes "DELETE") us (change_by d condition)
    (λ delete. yields _ (tail us)
    (g.merge_delete (subst (λ (us : List Token). MayHaveCondition d ts condition us) delete h)))
    (λ _. then_expect_word (codes "UPDATE") us _ (λ update. then_expect_word (codes "SET") (tail us) _
    (λ set_. follow (assignments-sound d (tail (tail us))) (λ set vs i.
    yields _ vs (g.merge_update (subst (λ (us : List Token). MayHaveCondition d ts condition us)
    (update ∙ ap (λ (us : List Token). Word (codes "UPDATE") ∷ us) set_) h) i))))))

unmatched-sound : (d : ℕ) (ts : List Token)
    → Yields (read_unmatched d ts) (λ c us. IsMergeClause d (Word (codes "WHEN") ∷ Word (codes "NOT") ∷ ts) c us)
unfolding read_unmatched
unmatched-sound d ts = then_expect_word (codes "MATCHED") ts _ (λ matched. follow (condition-sound d (tail ts))
    (λ condition us h. then_expect_word (codes "INSERT") us _ (λ insert.
    follow (columns-sound (tail us))
    (λ names vs i. then_expect_word (codes "VALUES") vs _ (λ values. follow (row-sound d (tail vs)) (λ row ws l.
    yields _ ws (behind (λ ts. IsMergeClause d
    (Word (codes "WHEN") ∷ Word (codes "NOT") ∷ ts) (clause.Insert condition names row) ws) matched
    (g.merge_insert (subst (λ (us : List Token). MayHaveCondition d (tail ts) condition us) insert h)
    (subst (λ (vs : List Token). MayHaveColumns (tail us) names vs) values i) l))))))))

clause-sound : (d : ℕ) (ts : List Token) → Yields (read_clause d ts) (λ c us. IsMergeClause d ts c us)
unfolding read_clause
clause-sound d ts = then_expect_word (codes "WHEN") ts _ (λ when. if_eaten_word (codes "NOT") (tail ts) (clause_by d)
    (λ not. mapped (unmatched-sound d (tail (tail ts))) (λ c us h.
    behind (λ ts. IsMergeClause d ts c us) (when ∙ ap (λ (us : List Token). Word (codes "WHEN") ∷ us) not) h))
    (λ _. then_expect_word (codes "MATCHED") (tail ts) _
    (λ matched. mapped (matched-sound d (tail (tail ts))) (λ c us h.
    behind (λ ts. IsMergeClause d ts c us) (when ∙ ap (λ (us : List Token). Word (codes "WHEN") ∷ us) matched) h))))

abbrev AtWhen : Bool → List Token → List Token → Type 0
AtWhen b us vs = us ≡ vs

when-sound : (ts : List Token) → Yields (peek_word (codes "WHEN") ts) (λ b us. AtWhen b ts us)
when-sound ts = yields _ ts refl

clauses-sound : (d : ℕ) (ts : List Token) → Yields (read_clauses d ts) (λ cs us. AreMergeClauses d ts cs us)
unfolding read_clauses
clauses-sound d ts = mapped
    (some-sound (read_clause d) (peek_word (codes "WHEN")) (IsMergeClause d) AtWhen (AreMergeClauses d)
    (clause-sound d) when-sound
    (λ ts us vs x h i. g.last_clause (subst (λ (us : List Token). IsMergeClause d ts x us) i h))
    (λ ts us vs ws x xs h i l. g.more_clauses (subst (λ (us : List Token). IsMergeClause d ts x us) i h) l)
    (length ts) [] ts)
    (λ ys us l. subst (λ (ys : List MergeClause). AreMergeClauses d ts ys us) (sym l.1) l.2)

-- ---- statements

query-sound : (d : ℕ) (ts : List Token) → Yields (read_query d ts) (λ q us. IsQuery d ts q us)
query-sound d ts = yields_law (λ q us e. ((queries_read d ts q us).0 e).query)

source-sound : (d : ℕ) (ts : List Token) → Yields (read_source d ts) (λ s us. IsSource d ts s us)
source-sound d ts = yields_law (λ s us e. ((sources_read d ts s us).0 e).source)

alias-sound : (ts : List Token) → Yields (read_alias ts) (λ a us. MayHaveAlias ts a us)
alias-sound ts = yields_law (λ a us e. ((aliases_read ts a us).0 e).alias)

filter-sound : (d : ℕ) (ts : List Token) → Yields (read_filter d ts) (λ x us. MayHaveFilter d ts x us)
filter-sound d ts = yields_law (λ x us e. ((filters_read d ts x us).0 e).filter)

rows-sound : (d : ℕ) (ts : List Token) → Yields (read_rows d ts) (λ found us. AreRows d ts found us)
unfolding read_rows
rows-sound d ts = if_eaten_word (codes "VALUES") ts (rows_by d)
    (λ values. follow (values-sound d (tail ts))
    (λ found us h. yields _ us (behind (λ ts. AreRows d ts (rows.Values found) us) values (g.values h))))
    (λ _. follow (query-sound d ts) (λ q us h. yields _ us (g.query h)))

insert-sound : (d : ℕ) (ts : List Token) → Yields (read_insert d ts) (λ x us. IsDml d (Word (codes "INSERT") ∷ ts) x us)
unfolding read_insert
insert-sound d ts = then_expect_word (codes "INTO") ts _
    (λ into. follow (name-yields (tail ts)) (λ table us h. follow (columns-sound us) (λ names vs i.
    follow (rows-sound d vs) (λ found ws l.
    yields _ ws (behind (λ ts. IsDml d (Word (codes "INSERT") ∷ ts) (dml.Insert table names found) ws)
    into (g.insert h i l))))))

update-sound : (d : ℕ) (ts : List Token) → Yields (read_update d ts) (λ x us. IsDml d (Word (codes "UPDATE") ∷ ts) x us)
unfolding read_update
update-sound d ts = follow (name-yields ts)
    (λ table us h. then_expect_word (codes "SET") us _ (λ set_. follow (assignments-sound d (tail us)) (λ set vs i.
    follow (filter-sound d vs) (λ filter ws l.
    yields _ ws (g.update (subst (λ (us : List Token). IsName ts table us) set_ h) i l)))))

delete-sound : (d : ℕ) (ts : List Token) → Yields (read_delete d ts) (λ x us. IsDml d (Word (codes "DELETE") ∷ ts) x us)
unfolding read_delete
delete-sound d ts = then_expect_word (codes "FROM") ts _
    (λ from. follow (name-yields (tail ts)) (λ table us h. follow (filter-sound d us) (λ filter vs i.
    yields _ vs
    (behind (λ ts. IsDml d (Word (codes "DELETE") ∷ ts) (dml.Delete table filter) vs) from (g.delete h i)))))

merge-sound : (d : ℕ) (ts : List Token) → Yields (read_merge d ts) (λ x us. IsDml d (Word (codes "MERGE") ∷ ts) x us)
unfolding read_merge
merge-sound d ts = then_expect_word (codes "INTO") ts _
    (λ into. follow (name-yields (tail ts)) (λ target us h. follow (alias-sound us) (λ alias vs i.
    then_expect_word (codes "USING") vs _
    (λ using_. follow (source-sound d (tail vs)) (λ source ws l. then_expect_word (codes "ON") ws _ (λ on_.
    follow (expr-sound d (tail ws)) (λ on rs m. follow (clauses-sound d rs) (λ clauses ends n.
    yields _ ends
    (behind (λ ts. IsDml d (Word (codes "MERGE") ∷ ts) (dml.Merge target alias source on clauses) ends) into
    (g.merge h (subst (λ (vs : List Token). MayHaveAlias us alias vs) using_ i)
    (subst (λ (ws : List Token). IsSource d (tail vs) source ws) on_ l) m n))))))))))

first : (d : ℕ) (w : List ℕ) (ts : List Token) {o : Option (Dml × List Token)}
    → Yields o (λ x us. IsDml d (Word w ∷ tail ts) x us) → ts ≡ Word w ∷ tail ts
    → Yields o (λ x us. IsDml d ts x us)
first d w ts h is = mapped h (λ x us l. behind (λ ts. IsDml d ts x us) is l)

change-sound : (d : ℕ) (ts : List Token) → Yields (read_change d ts) (λ x us. IsDml d ts x us)
unfolding read_change
change-sound d ts =
    if_eaten_word (codes "INSERT") ts (insert_by d) (first d (codes "INSERT") ts (insert-sound d (tail ts)))
    (λ _. if_eaten_word (codes "UPDATE") ts (update_by d) (first d (codes "UPDATE") ts (update-sound d (tail ts)))
    (λ _. if_eaten_word (codes "DELETE") ts (delete_by d) (first d (codes "DELETE") ts (delete-sound d (tail ts)))
    (λ _. if_eaten_word (codes "MERGE") ts (merge_by d) (first d (codes "MERGE") ts (merge-sound d (tail ts)))
    (λ _. nothing))))

pub dml-sound : (d : ℕ) (ts : List Token) → Yields (read_dml d ts) (λ x us. IsDmlAt d ts x us)
unfolding read_dml
dml-sound d ts = follow (change-sound d ts) (λ x us h. follow (end-yields us) (λ _ vs i.
    yields x vs (record { dml = subst (λ (us : List Token). IsDml d ts x us) (i.0 ∙ sym i.1) h; ends = i.1 })))
