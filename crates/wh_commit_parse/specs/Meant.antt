-- What the texts of a commit mean. None where one of them spells nothing that may stand there.
--     condition_of                       the condition that a text is
--     when_of, dml_of                    what the text of WHEN stands for, and a body's
--     query_of                           and a query's
--     body_meant, query_meant            the texts of a task, and of a dynamic table
--     change_meant, commit_meant         and of a change and of a commit
use Rattle.std.specs.Prelude.{ℕ, List, [], ◌∷◌, Option, Some, None, option_map}
use Rattle.wh_ast.specs.declared.dml.Dml.{Dml}
use Rattle.wh_ast.specs.declared.query.Query.{Query}
use Rattle.wh_ast.specs.declared.query.Sort.{Sort}
use Rattle.wh_ast.specs.declared.statement.When.{When}
use Rattle.wh_ast.specs.declared.statement.WhenCondition.{WhenCondition}
use Rattle.wh_ast.specs.declared.statement.Statement.{Statement}
use Rattle.wh_ast.specs.declared.statement.Statement.TheVariants as st
use Rattle.wh_grammar.specs.Token.{Placed}
use Rattle.wh_grammar.specs.Spelled.{tokens_of, most_nested}
use Rattle.wh_lex.specs.Read.{read_tokens}
use Rattle.wh_cursor.specs.Steps.{Reader, ◌>>=◌, ◌>>◌, pure, read_end}
use Rattle.wh_option_parse.specs.Read.{read_condition}
use Rattle.wh_stmt_parse.specs.Read.{read_statement}
use Rattle.wh_state.specs.Task.{TaskTexts, TaskBody}
use Rattle.wh_state.specs.Dynamic.{DynamicTexts, DynamicQuery}
use Rattle.wh_state.specs.Commit.{InTexts, TaskChangeIn, DynamicChangeIn, TextChange, TextCommit, Change, Commit}
use Rattle.wh_state.specs.Commit.{CreatesTable, Drops, PushesVersion, CreatesStream, SetsOffset, CreatesTask, SetsTask}
use Rattle.wh_state.specs.Commit.{StartsRun, FinishesTask, CreatesDynamic, SetsDynamic, SetsGroups}

-- ---- conditions

-- the condition that all the tokens are
unfoldable pub read_whole : Reader WhenCondition
read_whole = do
  condition ← read_condition most_nested
  read_end
  pure condition

abbrev pub condition_among : Option (List Placed) → Option WhenCondition
condition_among None = None
condition_among (Some placed) = option_map (λ p. p.0) (read_whole (tokens_of placed))

unfoldable pub condition_of : List ℕ → Option WhenCondition
condition_of text = condition_among (read_tokens text)

-- an empty text stands for no condition
unfoldable pub condition_in : List ℕ → Option (Option WhenCondition)
condition_in [] = Some None
condition_in (b ∷ bs) = option_map Some (condition_of (b ∷ bs))

abbrev pub with_text : List ℕ → WhenCondition → When
with_text text condition = record { condition = condition; text = text }

unfoldable pub when_of : List ℕ → Option (Option When)
when_of text = option_map (option_map (with_text text)) (condition_in text)

-- ---- statements

abbrev pub dml_in : Option Statement → Option Dml
dml_in (Some (st.Dml x)) = Some x
dml_in _ = None

unfoldable pub dml_of : List ℕ → Option Dml
dml_of text = dml_in (read_statement text)

-- ---- tasks

abbrev pub body_by : List ℕ → Option (Option When) → Option Dml → Option TaskBody
body_by text (Some when) (Some x) = Some (record { when = when; body = x; body_text = text })
body_by text _ _ = None

unfoldable pub body_meant : TaskTexts → Option TaskBody
body_meant t = body_by t.body (when_of t.when) (dml_of t.body)

-- ---- dynamic tables

abbrev pub unordered : Query → List Sort → Option Query
unordered q [] = Some q
unordered q (s ∷ ss) = None

-- of a SELECT without an order
abbrev pub query_in : Option Statement → Option Query
query_in (Some (st.Select q sorts)) = unordered q sorts
query_in _ = None

unfoldable pub query_of : List ℕ → Option Query
query_of text = query_in (read_statement text)

abbrev pub with_tree : DynamicTexts → Query → DynamicQuery
with_tree t tree = record { tree = tree; text = t.text; sources = t.sources }

unfoldable pub query_meant : DynamicTexts → Option DynamicQuery
query_meant t = option_map (with_tree t) (query_of t.text)

-- ---- changes and commits

abbrev pub with_body : TaskChangeIn InTexts → TaskBody → Change
with_body c runs =
    CreatesTask (record { id = c.id; name = c.name; minutes = c.minutes; after = c.after; runs = runs })

abbrev pub with_query : DynamicChangeIn InTexts → DynamicQuery → Change
with_query c query = CreatesDynamic (record {
  id = c.id;
  name = c.name;
  lag = c.lag;
  is_incremental = c.is_incremental;
  query = query;
  columns = c.columns;
})

unfoldable pub change_meant : TextChange → Option Change
change_meant (CreatesTable c) = Some (CreatesTable c)
change_meant (Drops id) = Some (Drops id)
change_meant (PushesVersion c) = Some (PushesVersion c)
change_meant (CreatesStream c) = Some (CreatesStream c)
change_meant (SetsOffset id offset) = Some (SetsOffset id offset)
change_meant (CreatesTask c) = option_map (with_body c) (body_meant c.runs)
change_meant (SetsTask id state) = Some (SetsTask id state)
change_meant (StartsRun root tasks) = Some (StartsRun root tasks)
change_meant (FinishesTask root task ending) = Some (FinishesTask root task ending)
change_meant (CreatesDynamic c) = option_map (with_query c) (query_meant c.query)
change_meant (SetsDynamic id state) = Some (SetsDynamic id state)
change_meant (SetsGroups id groups) = Some (SetsGroups id groups)

abbrev pub one_more : Option Change → Option (List Change) → Option (List Change)
one_more (Some c) (Some cs) = Some (c ∷ cs)
one_more _ _ = None

abbrev pub changes_meant : List TextChange → Option (List Change)
changes_meant [] = Some []
changes_meant (t ∷ ts) = one_more (change_meant t) (changes_meant ts)

unfoldable pub commit_meant : TextCommit → Option Commit
commit_meant t = option_map (λ changes. record { stamp = t.stamp; changes = changes }) (changes_meant t.changes)
