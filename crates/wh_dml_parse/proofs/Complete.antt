-- What the rules say is read.
use Rattle.std.proofs.Common.{◌≡◌, ℕ, suc, ◌-◌, ◌==◌, true, false, List, [], ◌∷◌, Option, Some, length, refl, sym, ap}
use Rattle.std.proofs.Common.{subst, ne_eqb, arith}
use Rattle.std.specs.Prelude.{codes}
use Rattle.wh_ast.specs.declared.expr.Expr.{Expr}
use Rattle.wh_ast.specs.declared.query.Query.{Query}
use Rattle.wh_ast.specs.declared.query.FromItem.{FromItem}
use Rattle.wh_ast.specs.declared.query.Core.{Core}
use Rattle.wh_ast.specs.declared.dml.Assignment.{Assignment}
use Rattle.wh_ast.specs.declared.dml.Rows.{Rows}
use Rattle.wh_ast.specs.declared.dml.MergeClause.{MergeClause}
use Rattle.wh_ast.specs.declared.dml.Dml.{Dml}
use Rattle.wh_grammar.specs.Words.{is_reserved}
use Rattle.wh_grammar.specs.Token as token
use Rattle.wh_grammar.specs.Token.{Token, Word, SignToken}
use Rattle.wh_cursor.specs.Binds.{binds}
use Rattle.wh_grammar.specs.Query as q
use Rattle.wh_grammar.specs.Query.{IsQuery, AreCores, IsCore, IsSource, MayHaveAlias, MayHaveFilter}
use Rattle.wh_grammar.specs.Changing as g
use Rattle.wh_grammar.specs.Changing.{AreNames, MayHaveColumns, IsValuesRow, AreValuesRows, AreRows, IsAssignment}
use Rattle.wh_grammar.specs.Changing.{AreAssignments, MayHaveCondition, IsMergeClause, AreMergeClauses, IsDml}
use Rattle.wh_cursor.specs.declared.key.TokenClass.TheVariants as k
use Rattle.wh_cursor.specs.Steps.{tail, sees, sees_word, expect_word, read_name}
use Rattle.wh_cursor.proofs.Combine.{lparen_reads, rparen_reads, equal_reads, sees_key_is, word_no_sign, name_reads}
use Rattle.wh_cursor.proofs.Combine.{name_shorter, end-reads}
use Rattle.wh_cursor.proofs.ListLemmas.{GivesSome, gives-last, gives-more, GivesListed, listed-last}
use Rattle.wh_cursor.proofs.ListLemmas.{listed-more, listed-reads}
use Rattle.wh_expr_parse.proofs.ExprSteps.{expr_reads, exprs_read}
use Rattle.wh_query_parse.specs.Follow.{ends_query, ends_filter}
use Rattle.wh_query_parse.specs.Read.{read_query, read_source, read_alias, read_filter}
use Rattle.wh_query_parse.proofs.Reading.{queries_read, sources_read, aliases_read, filters_read}
use Rattle.wh_dml_parse.specs.Follow.{IsDmlAt, ends_names}
use Rattle.wh_dml_parse.specs.Read.{read_names, read_columns, row_within, read_values_row, read_values_rows, read_rows}
use Rattle.wh_dml_parse.specs.Read.{read_assignment, read_assignments, read_condition, read_matched, read_unmatched}
use Rattle.wh_dml_parse.specs.Read.{read_clause, peek_word, read_clauses, read_insert, read_update, read_delete}
use Rattle.wh_dml_parse.specs.Read.{read_merge, read_change, read_dml}
use Rattle.wh_dml_parse.proofs.Several.{comma-none}
use Rattle.wh_dml_parse.proofs.Shorter.{row-shorter, assignment-shorter, clause-shorter}

-- ---- lists with commas

names-give : {ts us : List Token} {names : List (List ℕ)} → AreNames ts names us → ends_names us ≡ true
    → GivesListed read_name ts names us
names-give (g.last_name {us = us} h) e = listed-last (name_reads h) (name_shorter h) (comma-none us e)
names-give (g.more_names h more) e = listed-more (name_reads h) (name_shorter h) (names-give more e)

pub names-read : {ts us : List Token} {names : List (List ℕ)} → AreNames ts names us → ends_names us ≡ true
    → read_names ts ≡ Some (names, us)
unfolding read_names
names-read h e = listed-reads (names-give h e)

row-by : (d n : ℕ) (ts : List Token) {us : List Token} {xs : List Expr} → d ≡ suc n → row_within n ts ≡ Some (xs, us)
    → read_values_row d ts ≡ Some (xs, us)
unfolding read_values_row
row-by d n ts e h =
    let some : (d == 0) ≡ false = ne_eqb d 0 (λ none. omega (arith, e, none)) in
    let less : d - 1 ≡ n = omega (arith, e) in
    rw (some, less) h

row-reads : {d : ℕ} {ts us : List Token} {xs : List Expr} → IsValuesRow d ts xs us
    → read_values_row d ts ≡ Some (xs, us)
row-reads (g.values_row {d = d} {ts = ts} {us = us} h) = row-by (suc d) d (SignToken token.LParen ∷ ts) refl
    (rw (lparen_reads ts, exprs_read h refl (comma-none (SignToken token.RParen ∷ us) refl), rparen_reads us) refl)

values-give : {d : ℕ} {ts us : List Token} {found : List (List Expr)} → AreValuesRows d ts found us
    → ends_names us ≡ true
    → GivesListed (read_values_row d) ts found us
values-give (g.last_row {us = us} h) e = listed-last (row-reads h) (row-shorter h) (comma-none us e)
values-give (g.more_rows h more) e = listed-more (row-reads h) (row-shorter h) (values-give more e)

values-read : {d : ℕ} {ts us : List Token} {found : List (List Expr)} → AreValuesRows d ts found us
    → ends_names us ≡ true
    → read_values_rows d ts ≡ Some (found, us)
unfolding read_values_rows
values-read h e = listed-reads (values-give h e)

assignment-reads : {d : ℕ} {ts us : List Token} {a : Assignment} → IsAssignment d ts a us → binds us ≡ 0
    → read_assignment d ts ≡ Some (a, us)
unfolding read_assignment
assignment-reads (g.assignment {us = us} column value) b =
    rw (name_reads column, equal_reads us, expr_reads value b) refl

assignments-give : {d : ℕ} {ts us : List Token} {set : List Assignment} → AreAssignments d ts set us → binds us ≡ 0
    → ends_names us ≡ true
    → GivesListed (read_assignment d) ts set us
assignments-give (g.last_assignment {us = us} h) b e =
    listed-last (assignment-reads h b) (assignment-shorter h) (comma-none us e)
assignments-give (g.more_assignments h more) b e =
    listed-more (assignment-reads h refl) (assignment-shorter h) (assignments-give more b e)

assignments-read : {d : ℕ} {ts us : List Token} {set : List Assignment} → AreAssignments d ts set us → binds us ≡ 0
    → ends_names us ≡ true
    → read_assignments d ts ≡ Some (set, us)
unfolding read_assignments
assignments-read h b e = listed-reads (assignments-give h b e)

-- ---- clauses of MERGE

columns-read : {ts us : List Token} {names : Option (List (List ℕ))} → MayHaveColumns ts names us
    → sees k.LParen us ≡ false
    → read_columns ts ≡ Some (names, us)
unfolding read_columns
columns-read g.no_columns e = rw e refl
columns-read (g.columns {ts = ts} {us = us} h) e =
    rw (sees_key_is k.LParen (SignToken token.LParen) ts refl, names-read h refl, rparen_reads us) refl

condition-reads : {d : ℕ} {ts us : List Token} {condition : Option Expr} → MayHaveCondition d ts condition us
    → read_condition d ts ≡ Some (condition, us)
unfolding read_condition sees_word expect_word
condition-reads g.no_condition = refl
condition-reads (g.a_condition h) = rw (expr_reads h refl) refl

values-open : (us : List Token) → sees k.LParen (Word (codes "VALUES") ∷ us) ≡ false
values-open us = word_no_sign k.LParen token.LParen _ us refl

select-open : (us : List Token) → sees k.LParen (Word (codes "SELECT") ∷ us) ≡ false
select-open us = word_no_sign k.LParen token.LParen _ us refl

clause-reads : {d : ℕ} {ts us : List Token} {c : MergeClause} → IsMergeClause d ts c us → binds us ≡ 0
    → ends_names us ≡ true → read_clause d ts ≡ Some (c, us)
unfolding read_clause read_matched read_unmatched sees_word expect_word
clause-reads (g.merge_update condition set) b e = rw (condition-reads condition, assignments-read set b e) refl
clause-reads (g.merge_delete condition) b e = rw (condition-reads condition) refl
clause-reads (g.merge_insert {vs = vs} condition names row) b e =
    rw (condition-reads condition, columns-read names (values-open vs), row-reads row) refl

clause-heads : {d : ℕ} {ts us : List Token} {c : MergeClause} → IsMergeClause d ts c us
    → ts ≡ Word (codes "WHEN") ∷ tail ts
clause-heads (g.merge_update _ _) = refl
clause-heads (g.merge_delete _) = refl
clause-heads (g.merge_insert _ _ _) = refl

clauses-head : {d : ℕ} {ts us : List Token} {cs : List MergeClause} → AreMergeClauses d ts cs us
    → ts ≡ Word (codes "WHEN") ∷ tail ts
clauses-head (g.last_clause h) = clause-heads h
clauses-head (g.more_clauses h more) = clause-heads h

when-none : (us : List Token) → us ≡ [] → peek_word (codes "WHEN") us ≡ Some (false, us)
unfolding sees_word
when-none us e = subst (λ (us : List Token). peek_word (codes "WHEN") us ≡ Some (false, us)) (sym e) refl

when-seen : (us : List Token) → us ≡ Word (codes "WHEN") ∷ tail us → peek_word (codes "WHEN") us ≡ Some (true, us)
unfolding sees_word
when-seen us e = subst (λ (us : List Token). peek_word (codes "WHEN") us ≡ Some (true, us)) (sym e) refl

clauses-give : {d : ℕ} {ts us : List Token} {cs : List MergeClause} → AreMergeClauses d ts cs us → us ≡ []
    → GivesSome (read_clause d) (peek_word (codes "WHEN")) ts cs us
clauses-give (g.last_clause {us = us} h) e =
    gives-last (clause-reads h (ap binds e) (ap ends_names e)) (clause-shorter h) (when-none us e)
clauses-give (g.more_clauses {us = us} h more) e =
    let when = clauses-head more in
    gives-more (clause-reads h (ap binds when) (ap ends_names when)) (clause-shorter h) (when-seen us when)
    (omega arith) (clauses-give more e)

clauses-read : {d : ℕ} {ts us : List Token} {cs : List MergeClause} → AreMergeClauses d ts cs us → us ≡ []
    → read_clauses d ts ≡ Some (cs, us)
unfolding read_clauses
clauses-read {ts = ts} h e = (clauses-give h e).run (length ts) [] (omega arith)

-- ---- statements

core-heads : {d : ℕ} {ts us : List Token} {x : Core} → IsCore d ts x us → ts ≡ Word (codes "SELECT") ∷ tail ts
core-heads (q.core _ _ _ _ _ _) = refl

cores-head : {d : ℕ} {ts us : List Token} {xs : List Core} → AreCores d ts xs us → ts ≡ Word (codes "SELECT") ∷ tail ts
cores-head (q.last_core h) = core-heads h
cores-head (q.more_cores h more) = core-heads h

query-heads : {d : ℕ} {ts us : List Token} {x : Query} → IsQuery d ts x us → ts ≡ Word (codes "SELECT") ∷ tail ts
query-heads (q.query _ cores) = cores-head cores

rows-closed : {d : ℕ} {ts us : List Token} {found : Rows} → AreRows d ts found us → sees k.LParen ts ≡ false
rows-closed (g.values {ts = ts} h) = values-open ts
rows-closed (g.query {ts = ts} h) =
    subst (λ (ts : List Token). sees k.LParen ts ≡ false) (sym (query-heads h)) (select-open (tail ts))

no-values : (ts : List Token) → ts ≡ Word (codes "SELECT") ∷ tail ts → sees_word (codes "VALUES") ts ≡ false
unfolding sees_word
no-values ts e = ap (sees_word (codes "VALUES")) e

query-reads : {d : ℕ} {ts us : List Token} {x : Query} → IsQuery d ts x us → us ≡ [] → read_query d ts ≡ Some (x, us)
query-reads {d} {ts} {us} {x} h e = (queries_read d ts x us).1 (record { query = h; ends = ap ends_query e })

alias-reads : {ts vs : List Token} {a : Option (List ℕ)} → MayHaveAlias ts a (Word (codes "USING") ∷ vs)
    → read_alias ts ≡ Some (a, Word (codes "USING") ∷ vs)
unfolding is_reserved
alias-reads {ts} {vs} {a} h = (aliases_read ts a (Word (codes "USING") ∷ vs)).1 (record { alias = h; ends = refl })

source-reads : {d : ℕ} {ts vs : List Token} {s : FromItem} → IsSource d ts s (Word (codes "ON") ∷ vs)
    → read_source d ts ≡ Some (s, Word (codes "ON") ∷ vs)
unfolding is_reserved
source-reads {d} {ts} {vs} {s} h = (sources_read d ts s (Word (codes "ON") ∷ vs)).1 (record { source = h; ends = refl })

filter-reads : {d : ℕ} {ts us : List Token} {x : Option Expr} → MayHaveFilter d ts x us → us ≡ []
    → read_filter d ts ≡ Some (x, us)
unfolding sees_word
filter-reads {d} {ts} {us} {x} h e = (filters_read d ts x us).1 (record { filter = h; ends = ap ends_filter e })

rows-read : {d : ℕ} {ts us : List Token} {found : Rows} → AreRows d ts found us → us ≡ []
    → read_rows d ts ≡ Some (found, us)
unfolding read_rows sees_word
rows-read (g.values h) e = rw (values-read h (ap ends_names e)) refl
rows-read (g.query {ts = ts} h) e = rw (no-values ts (query-heads h), query-reads h e) refl

filter-binds : {d : ℕ} {ts us : List Token} {x : Option Expr} → MayHaveFilter d ts x us → us ≡ []
    → (binds ts ≡ 0) × (ends_names ts ≡ true)
filter-binds q.no_filter e = (ap binds e, ap ends_names e)
filter-binds (q.a_filter h) e = (refl, refl)

change-reads : {d : ℕ} {ts us : List Token} {x : Dml} → IsDml d ts x us → us ≡ [] → read_change d ts ≡ Some (x, us)
unfolding read_change read_insert read_update read_delete read_merge sees_word expect_word
change-reads (g.insert table names found) e =
    rw (name_reads table, columns-read names (rows-closed found), rows-read found e) refl
change-reads (g.update table set filter) e =
    let behind = filter-binds filter e in
    rw (name_reads table, assignments-read set behind.0 behind.1, filter-reads filter e) refl
change-reads (g.delete table filter) e = rw (name_reads table, filter-reads filter e) refl
change-reads (g.merge target alias source on clauses) e =
    rw (
      name_reads target,
      alias-reads alias,
      source-reads source,
      expr_reads on (ap binds (clauses-head clauses)),
      clauses-read clauses e,
    ) refl

pub dml-reads : {d : ℕ} {ts us : List Token} {x : Dml} → IsDmlAt d ts x us → read_dml d ts ≡ Some (x, us)
unfolding read_dml
dml-reads {us = us} h = rw (change-reads h.dml h.ends, end-reads us h.ends) refl
