-- What texts mean is what they spell.
--     no_query        no other statement than a SELECT is a query
--     meant_is        a commit that texts mean is one, and has these texts
--     change_again    the texts of a change mean it
--     meant_again     and those of a commit
use Rattle.std.proofs.Common.{◌≡◌, ℕ, List, [], ◌∷◌, map, Option, Some, None, option_map, IsUtf8, refl, sym, ap}
use Rattle.std.proofs.Common.{◌∙◌, subst}
use Rattle.std.specs.List.{AllByRecursion}
use Rattle.std.specs.Option.{option_map_or}
use Rattle.std.proofs.lemmas.Option.{same_Some}
use Rattle.wh_ast.specs.declared.dml.Dml.{Dml}
use Rattle.wh_ast.specs.declared.query.Query.{Query}
use Rattle.wh_ast.specs.declared.query.Sort.{Sort}
use Rattle.wh_ast.specs.declared.statement.When.{When}
use Rattle.wh_ast.specs.declared.statement.WhenCondition.{WhenCondition}
use Rattle.wh_ast.specs.declared.statement.Statement.{Statement}
use Rattle.wh_ast.specs.declared.statement.Statement.TheVariants as st
use Rattle.wh_grammar.specs.Token.{Token, Placed}
use Rattle.wh_grammar.specs.Parts.{IsCondition}
use Rattle.wh_grammar.specs.Spelled.{Spells, tokens_of, most_nested}
use Rattle.wh_lex.specs.Read.{read_tokens}
use Rattle.wh_lex.proofs.ReadLaws.{tokens_read}
use Rattle.wh_cursor.specs.Steps.{◌>>◌, pure, read_end}
use Rattle.wh_cursor.proofs.Yields.{bind_some, pure_some}
use Rattle.wh_option_parse.specs.Read.{read_condition}
use Rattle.wh_option_parse.proofs.Reading.{conditions_read}
use Rattle.wh_stmt_parse.specs.Read.{read_statement}
use Rattle.wh_stmt_parse.proofs.Reading.{texts_read}
use Rattle.wh_state.specs.Task.{TaskTexts, TaskBody, texts_of, SpellsCondition, IsWhenSpelled, IsSpelled}
use Rattle.wh_state.specs.Commit.{Change, Commit, TextChange, TextCommit, CreatesTable, Drops, PushesVersion}
use Rattle.wh_state.specs.Commit.{CreatesStream, SetsOffset, CreatesTask, SetsTask, StartsRun, FinishesTask}
use Rattle.wh_state.specs.Commit.{CreatesDynamic, SetsDynamic, SetsGroups, task_as_text, dynamic_as_text}
use Rattle.wh_state.specs.Commit.{change_as_text, as_text}
use Rattle.wh_state.specs.Dynamic.{DynamicTexts, DynamicQuery, query_texts_of, IsQuerySpelled}
use Rattle.wh_state.specs.Spelling.{IsChange, text_payload, payload_of, IsTextCommit, IsUnderstood, IsCommit}
use Rattle.wh_commit_parse.specs.Meant.{read_whole, condition_among, condition_of, condition_in, with_text, when_of}
use Rattle.wh_commit_parse.specs.Meant.{dml_in, dml_of, body_by, body_meant, query_in, query_of, with_tree, query_meant}
use Rattle.wh_commit_parse.specs.Meant.{with_body, with_query, change_meant, one_more, changes_meant, commit_meant}
use Rattle.wh_commit_parse.proofs.TextLaws.{no_condition, condition_is_read}

-- ---- conditions

at_end : (ts us : List Token) (u : Unit {0}) → read_end ts ≡ Some (u, us) → ts ≡ []
unfolding read_end
at_end [] us u e = refl
at_end (t ∷ ts) us u e = absurd cc

whole_is : (ts us : List Token) (x : WhenCondition) → read_whole ts ≡ Some (x, us) → IsCondition most_nested ts x []
unfolding read_whole
whole_is ts us x e =
    let first = bind_some (read_condition most_nested ts) (λ (y : WhenCondition). read_end >> pure y) e in
    let last = bind_some (read_end first.left) (λ _. pure first.value) first.next in
    let none : first.left ≡ [] = at_end first.left last.left last.value last.first in
    let same : first.value ≡ x = (pure_some last.next).0 in
    let read : read_condition most_nested ts ≡ Some (x, []) = first.first ∙ cc in
    ((conditions_read most_nested ts x []).0 read).condition

condition_is : (text : List ℕ) (x : WhenCondition) → IsUtf8 text → condition_of text ≡ Some x → SpellsCondition text x
unfolding condition_of
condition_is text x utf8 e = by (read_tokens text) refl e
  where
    among : (ts : List Token) (read : Option (WhenCondition × List Token)) → read_whole ts ≡ read
        → option_map (λ p. p.0) read ≡ Some x → IsCondition most_nested ts x []
    among ts None is e = absurd cc
    among ts (Some p) is e =
        let same : p.0 ≡ x = same_Some _ _ e in
        subst (λ (y : WhenCondition). IsCondition most_nested ts y []) same (whole_is ts p.1 p.0 is)

    by : (found : Option (List Placed)) → read_tokens text ≡ found → condition_among found ≡ Some x
        → SpellsCondition text x
    by None read is = absurd cc
    by (Some placed) read is = record {
      utf8 = utf8;
      placed = placed;
      tokens = (tokens_read text placed).0 read;
      is_condition = among (tokens_of placed) (read_whole (tokens_of placed)) refl is;
    }

condition_again : (text : List ℕ) (x : WhenCondition) → SpellsCondition text x → condition_of text ≡ Some x
unfolding condition_of read_whole read_end
condition_again text x h =
    let tokens : read_tokens text ≡ Some h.placed = (tokens_read text h.placed).1 h.tokens in
    let read = condition_is_read (tokens_of h.placed) x h.is_condition in
    rw (tokens, read) refl

-- ---- what a task runs

abbrev IsOf : List ℕ → Option When → Type 0
IsOf text when = IsWhenSpelled when × (option_map_or (λ w. w.text) when [] ≡ text)

abbrev when_by : List ℕ → Option WhenCondition → Option (Option When)
when_by text found = option_map (option_map (with_text text)) (option_map Some found)

when_is : (text : List ℕ) (when : Option When) → IsUtf8 text → when_of text ≡ Some when → IsOf text when
unfolding when_of condition_in
when_is [] when utf8 e = subst (IsOf []) (same_Some None when e) (tt, refl)
when_is (b ∷ bs) when utf8 e = by (condition_of (b ∷ bs)) refl e
  where
    by : (found : Option WhenCondition) → condition_of (b ∷ bs) ≡ found → when_by (b ∷ bs) found ≡ Some when
        → IsOf (b ∷ bs) when
    by None read is = absurd cc
    by (Some x) read is = subst (IsOf (b ∷ bs)) (same_Some _ when is) (condition_is (b ∷ bs) x utf8 read, refl)

condition_kept : (text : List ℕ) (x : WhenCondition) → SpellsCondition text x
    → when_of text ≡ Some (Some (record { condition = x; text = text }))
unfolding when_of condition_in
condition_kept [] x h = absurd (no_condition [] x refl h)
condition_kept (b ∷ bs) x h = ap (when_by (b ∷ bs)) (condition_again (b ∷ bs) x h)

when_again : (when : Option When) → IsWhenSpelled when → when_of (option_map_or (λ w. w.text) when []) ≡ Some when
unfolding when_of condition_in
when_again None h = refl
when_again (Some w) h = condition_kept w.text w.condition h

dml_only : (s : Statement) (x : Dml) → dml_in (Some s) ≡ Some x → s ≡ st.Dml x
dml_only (st.Dml y) x e = ap st.Dml (same_Some y x e)
dml_only _ x e = absurd cc

dml_is : (text : List ℕ) (x : Dml) → dml_of text ≡ Some x → Spells text (st.Dml x)
unfolding dml_of
dml_is text x e = by (read_statement text) refl e
  where
    by : (found : Option Statement) → read_statement text ≡ found → dml_in found ≡ Some x → Spells text (st.Dml x)
    by None read is = absurd cc
    by (Some s) read is = (texts_read text (st.Dml x)).0 (read ∙ ap Some (dml_only s x is))

dml_again : (text : List ℕ) (x : Dml) → Spells text (st.Dml x) → dml_of text ≡ Some x
unfolding dml_of
dml_again text x h = ap dml_in ((texts_read text (st.Dml x)).1 h)

body_is : (t : TaskTexts) (b : TaskBody) → IsUtf8 t.when → body_meant t ≡ Some b → IsSpelled b × (texts_of b ≡ t)
unfolding body_meant
body_is t b utf8 e = by (when_of t.when) (dml_of t.body) refl refl e
  where
    by : (when : Option (Option When)) (x : Option Dml) → when_of t.when ≡ when → dml_of t.body ≡ x
        → body_by t.body when x ≡ Some b → IsSpelled b × (texts_of b ≡ t)
    by None x read found is = absurd cc
    by (Some when) None read found is = absurd cc
    by (Some when) (Some x) read found is =
        let has = when_is t.when when utf8 read in
        subst (λ (b : TaskBody). IsSpelled b × (texts_of b ≡ t)) (same_Some _ b is) (
          record { when = has.0; body = dml_is t.body x found },
          ap {B = TaskTexts} (λ (text : List ℕ). record { when = text; body = t.body }) has.1,
        )

body_again : (b : TaskBody) → IsSpelled b → body_meant (texts_of b) ≡ Some b
unfolding body_meant
body_again b h =
    let when = when_again b.when h.when in
    let body = dml_again b.body_text b.body h.body in
    rw (when, body) refl

-- ---- queries of dynamic tables

pub no_query : (s : Statement) → ((q : Query) (sorts : List Sort) → s ≡ st.Select q sorts → ⊥) → query_in (Some s) ≡ None
no_query (st.Select q sorts) h = absurd (h q sorts refl)
no_query _ h = refl

query_only : (s : Statement) (x : Query) → query_in (Some s) ≡ Some x → s ≡ st.Select x []
query_only (st.Select y []) x e = ap {B = Statement} (λ (q : Query). st.Select q []) (same_Some y x e)
query_only (st.Select y (s ∷ ss)) x e = absurd cc
query_only _ x e = absurd cc

query_is : (text : List ℕ) (x : Query) → query_of text ≡ Some x → Spells text (st.Select x [])
unfolding query_of
query_is text x e = by (read_statement text) refl e
  where
    by : (found : Option Statement) → read_statement text ≡ found → query_in found ≡ Some x
        → Spells text (st.Select x [])
    by None read is = absurd cc
    by (Some s) read is = (texts_read text (st.Select x [])).0 (read ∙ ap Some (query_only s x is))

query_again : (text : List ℕ) (x : Query) → Spells text (st.Select x []) → query_of text ≡ Some x
unfolding query_of
query_again text x h = ap query_in ((texts_read text (st.Select x [])).1 h)

abbrev IsQueryOf : DynamicTexts → DynamicQuery → Type 0
IsQueryOf t q = IsQuerySpelled q × (query_texts_of q ≡ t)

dynamic_is : (t : DynamicTexts) (q : DynamicQuery) → query_meant t ≡ Some q → IsQueryOf t q
unfolding query_meant
dynamic_is t q e = by (query_of t.text) refl e
  where
    by : (found : Option Query) → query_of t.text ≡ found → option_map (with_tree t) found ≡ Some q → IsQueryOf t q
    by None read is = absurd cc
    by (Some x) read is = subst (IsQueryOf t) (same_Some _ q is) (query_is t.text x read, refl)

dynamic_again : (q : DynamicQuery) → IsQuerySpelled q → query_meant (query_texts_of q) ≡ Some q
unfolding query_meant
dynamic_again q h = ap (option_map (with_tree (query_texts_of q))) (query_again q.text q.tree h)

-- ---- changes

abbrev IsMeantBy : TextChange → Change → Type 0
IsMeantBy t c = IsUnderstood c × (change_as_text c ≡ t)

as_it_is : (t : TextChange) (kept c : Change) → IsMeantBy t kept → Some kept ≡ Some c → IsMeantBy t c
as_it_is t kept c h e = subst (IsMeantBy t) (same_Some kept c e) h

change_is : (t : TextChange) (c : Change) → IsChange t → change_meant t ≡ Some c → IsMeantBy t c
unfolding change_meant
change_is (CreatesTable x) c good e = as_it_is _ (CreatesTable x) c (tt, refl) e
change_is (Drops id) c good e = as_it_is _ (Drops id) c (tt, refl) e
change_is (PushesVersion x) c good e = as_it_is _ (PushesVersion x) c (tt, refl) e
change_is (CreatesStream x) c good e = as_it_is _ (CreatesStream x) c (tt, refl) e
change_is (SetsOffset id offset) c good e = as_it_is _ (SetsOffset id offset) c (tt, refl) e
change_is (SetsTask id state) c good e = as_it_is _ (SetsTask id state) c (tt, refl) e
change_is (StartsRun root tasks) c good e = as_it_is _ (StartsRun root tasks) c (tt, refl) e
change_is (FinishesTask root task ending) c good e = as_it_is _ (FinishesTask root task ending) c (tt, refl) e
change_is (SetsDynamic id state) c good e = as_it_is _ (SetsDynamic id state) c (tt, refl) e
change_is (SetsGroups id groups) c good e = as_it_is _ (SetsGroups id groups) c (tt, refl) e
change_is (CreatesTask x) c good e = by (body_meant x.runs) refl e
  where
    by : (found : Option TaskBody) → body_meant x.runs ≡ found → option_map (with_body x) found ≡ Some c
        → IsMeantBy (CreatesTask x) c
    by None read is = absurd cc
    by (Some b) read is =
        let spelled = body_is x.runs b good.when.utf8 read in
        as_it_is (CreatesTask x) (with_body x b) c (
          spelled.0,
          ap {B = TextChange} (λ (runs : TaskTexts). CreatesTask (record {
            id = x.id;
            name = x.name;
            minutes = x.minutes;
            after = x.after;
            runs = runs;
          })) spelled.1,
        ) is
change_is (CreatesDynamic x) c good e = by (query_meant x.query) refl e
  where
    by : (found : Option DynamicQuery) → query_meant x.query ≡ found → option_map (with_query x) found ≡ Some c
        → IsMeantBy (CreatesDynamic x) c
    by None read is = absurd cc
    by (Some q) read is =
        let spelled = dynamic_is x.query q read in
        as_it_is (CreatesDynamic x) (with_query x q) c (
          spelled.0,
          ap {B = TextChange} (λ (query : DynamicTexts). CreatesDynamic (record {
            id = x.id;
            name = x.name;
            lag = x.lag;
            is_incremental = x.is_incremental;
            query = query;
            columns = x.columns;
          })) spelled.1,
        ) is

pub change_again : (c : Change) → IsUnderstood c → change_meant (change_as_text c) ≡ Some c
unfolding change_meant
change_again (CreatesTable x) h = refl
change_again (Drops id) h = refl
change_again (PushesVersion x) h = refl
change_again (CreatesStream x) h = refl
change_again (SetsOffset id offset) h = refl
change_again (CreatesTask x) h = ap (option_map (with_body (task_as_text x))) (body_again x.runs h)
change_again (SetsTask id state) h = refl
change_again (StartsRun root tasks) h = refl
change_again (FinishesTask root task ending) h = refl
change_again (CreatesDynamic x) h = ap (option_map (with_query (dynamic_as_text x))) (dynamic_again x.query h)
change_again (SetsDynamic id state) h = refl
change_again (SetsGroups id groups) h = refl

-- ---- commits

abbrev AreMeantBy : List TextChange → List Change → Type 0
AreMeantBy ts cs = AllByRecursion IsUnderstood cs × (map change_as_text cs ≡ ts)

one_more_is : (t : TextChange) (ts : List TextChange) (cs : List Change) (first : Option Change)
    (rest : Option (List Change)) → one_more first rest ≡ Some cs
    → ((c : Change) → first ≡ Some c → IsMeantBy t c)
    → ((ds : List Change) → rest ≡ Some ds → AreMeantBy ts ds)
    → AreMeantBy (t ∷ ts) cs
one_more_is t ts cs None rest is one more = absurd cc
one_more_is t ts cs (Some c) None is one more = absurd cc
one_more_is t ts cs (Some c) (Some ds) is one more =
    let here = one c refl in
    let behind = more ds refl in
    subst (AreMeantBy (t ∷ ts)) (same_Some (c ∷ ds) cs is) ((here.0, behind.0), cc)

changes_are : (ts : List TextChange) (cs : List Change) → AllByRecursion IsChange ts → changes_meant ts ≡ Some cs
    → AreMeantBy ts cs
changes_are [] cs good e = subst (AreMeantBy []) (same_Some [] cs e) (tt, refl)
changes_are (t ∷ ts) cs good e = one_more_is t ts cs (change_meant t) (changes_meant ts) e
    (λ c is. change_is t c good.0 is) (λ ds is. changes_are ts ds good.1 is)

changes_again : (cs : List Change) → AllByRecursion IsUnderstood cs → changes_meant (map change_as_text cs) ≡ Some cs
changes_again [] h = refl
changes_again (c ∷ cs) h =
    let first = change_again c h.0 in
    let rest = changes_again cs h.1 in
    rw (first, rest) refl

pub meant_is : (t : TextCommit) (c : Commit) → IsTextCommit t → commit_meant t ≡ Some c → IsCommit c × (as_text c ≡ t)
unfolding commit_meant
meant_is t c good e = by (changes_meant t.changes) refl e
  where
    by : (found : Option (List Change)) → changes_meant t.changes ≡ found
        → option_map (λ (cs : List Change). record { stamp = t.stamp; changes = cs }) found ≡ Some c
        → IsCommit c × (as_text c ≡ t)
    by None read is = absurd cc
    by (Some cs) read is =
        let all = changes_are t.changes cs good.changes read in
        let text = ap {B = TextCommit} (λ (ts : List TextChange). record { stamp = t.stamp; changes = ts }) all.1 in
        subst (λ (d : Commit). IsCommit d × (as_text d ≡ t)) (same_Some _ c is)
        (record { written = subst IsTextCommit (sym text) good; understood = all.0 }, text)

pub meant_again : (c : Commit) → IsCommit c → commit_meant (as_text c) ≡ Some c
unfolding commit_meant
meant_again c h = ap (option_map (λ (cs : List Change). record { stamp = c.stamp; changes = cs }))
    (changes_again c.changes h.understood)

-- ---- what is decoded

pub decoded_found : (payload : List ℕ) (t : TextCommit) (c : Commit) → IsTextCommit t → payload ≡ text_payload t
    → commit_meant t ≡ Some c
    → IsCommit c × (payload ≡ payload_of c)
decoded_found payload t c good spelled meant =
    let is = meant_is t c good meant in
    (is.0, spelled ∙ ap text_payload (sym is.1))

pub decoded_again : (t : TextCommit) (c d : Commit) → IsCommit c → t ≡ as_text c → commit_meant t ≡ Some d → d ≡ c
decoded_again t c d good same meant =
    same_Some d c (sym meant ∙ ap commit_meant same ∙ meant_again c good)

pub decoded_none : (t : TextCommit) (c : Commit) → IsCommit c → t ≡ as_text c → commit_meant t ≡ None → ⊥
decoded_none t c good same none =
    let k = sym none ∙ ap commit_meant same ∙ meant_again c good in
    cc
