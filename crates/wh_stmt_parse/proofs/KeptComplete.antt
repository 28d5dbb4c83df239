-- What is a statement that keeps parts of its text is read as it.
use Rattle.std.proofs.Common.{◌≡◌, ℕ, ◌≤◌, ◌⊎◌, inl, inr, true, false, List, [], ◌∷◌, ◌++◌, Option, Some, None, length}
use Rattle.std.proofs.Common.{refl, sym, ap, ◌∙◌, append_assoc, IsUtf8, subst}
use Rattle.std.specs.Prelude.{codes}
use Rattle.wh_value.specs.Value.{IsText}
use Rattle.wh_ast.specs.declared.dml.Dml.{Dml}
use Rattle.wh_ast.specs.declared.query.Query.{Query}
use Rattle.wh_ast.specs.declared.statement.Statement.{Statement}
use Rattle.wh_ast.specs.declared.statement.WhenCondition.{WhenCondition}
use Rattle.wh_ast.specs.declared.statement.When.{When}
use Rattle.wh_ast.specs.declared.statement.Lag.{Lag}
use Rattle.wh_ast.specs.declared.statement.RefreshMode.{RefreshMode}
use Rattle.wh_ast.specs.declared.statement.Initialize.{Initialize}
use Rattle.wh_grammar.specs.Token.{Token, Word, Placed}
use Rattle.wh_grammar.specs.Lexing.{HasTokens}
use Rattle.wh_grammar.specs.Changing.{IsDml}
use Rattle.wh_grammar.specs.Query.{IsQuery}
use Rattle.wh_grammar.specs.Parts.{IsCondition, AreTaskOptions, TaskOptionsGive, TaskOption}
use Rattle.wh_grammar.specs.Name.{IsName}
use Rattle.wh_grammar.specs.Spelled as g
use Rattle.wh_grammar.specs.Spelled.{IsStatement, IsTaskHead, task_head, IsTableHead, table_head, MayFollow}
use Rattle.wh_grammar.specs.Spelled.{follows_none, follows, most_nested, tokens_of, written, IsKept}
use Rattle.wh_cursor.specs.Steps.{sees_word}
use Rattle.wh_cursor.proofs.Combine.{sees_word_is, expect_word_reads, name_reads, other_word}
use Rattle.wh_query_parse.specs.Read.{read_query}
use Rattle.wh_option_parse.specs.Follow.{ends_task_options}
use Rattle.wh_option_parse.specs.Read.{read_condition, read_table_options}
use Rattle.wh_dml_parse.specs.Follow.{ends_names}
use Rattle.wh_dml_parse.specs.Read.{read_dml}
use Rattle.wh_stmt_parse.specs.declared.kept.TaskHead.{TaskHead}
use Rattle.wh_stmt_parse.specs.KeptText.{between, starts_once, read_task_head, piece, read_guard, read_task}
use Rattle.wh_stmt_parse.specs.KeptText.{read_dynamic_table}
use Rattle.wh_stmt_parse.specs.Read.{object_of, read_create, read_words}
use Rattle.wh_stmt_parse.proofs.Heads.{task-frame, table-frame}
use Rattle.wh_stmt_parse.proofs.KeptSound.{made, shown, at_as}
use Rattle.wh_cursor.proofs.Combine.{given-reads}
use Rattle.wh_stmt_parse.proofs.Parting.{between_is, last_is, nothing_behind, tokens-append}
use Rattle.wh_stmt_parse.proofs.PartsComplete.{after-reads}
use Rattle.wh_stmt_parse.proofs.Pieces.{piece_is}
use Rattle.wh_stmt_parse.proofs.PlainComplete.{at-create, plain-read}
use Rattle.wh_stmt_parse.proofs.Readers.{Readers}
use Rattle.wh_lex.specs.Front.{text_of}
use Rattle.wh_lex.proofs.TextLemmas.{text-read}

-- ---- the head of a task

once-true : (minutes : Option ℕ) (names : List (List ℕ)) → (minutes ≡ None) ⊎ (names ≡ [])
    → starts_once minutes names ≡ true
once-true None names h = refl
once-true (Some n) [] h = refl
once-true (Some n) (name ∷ names) (inl e) = absurd (cc)
once-true (Some n) (name ∷ names) (inr e) = absurd (cc)

-- what may stand behind the head
record EndsHead (us : List Token) : Type 0 where
  names : ends_names us ≡ true
  after : sees_word (codes "AFTER") us ≡ false
  options : ends_task_options us ≡ true

as_ends : (us : List Token) → EndsHead (at_as us)
as_ends us = record { names = refl; after = other_word (codes "AFTER") (codes "AS") us refl; options = refl }

when_ends : (us : List Token) → EndsHead (Word (codes "WHEN") ∷ us)
when_ends us = record { names = refl; after = other_word (codes "AFTER") (codes "WHEN") us refl; options = refl }

options-end : {ts us : List Token} {names : List (List ℕ)} → MayFollow ts names us → ends_task_options us ≡ true
    → ends_task_options ts ≡ true
options-end follows_none h = h
options-end (follows names) h = refl

head-reads : Readers
    → {ts us vs ws : List Token} {name : List ℕ} {options : List TaskOption} {minutes : Option ℕ}
    {names : List (List ℕ)}
    → IsName ts name us → AreTaskOptions us options vs → TaskOptionsGive options minutes → MayFollow vs names ws
    → (minutes ≡ None) ⊎ (names ≡ []) → EndsHead ws
    → read_task_head ts ≡ Some (record { name = name; minutes = minutes; after = names }, ws)
unfolding read_task_head
head-reads r {us = us} {vs = vs} {options = options} {minutes = minutes} {names = names} n o give f once e =
    rw (
      name_reads n,
      (r.task_options us minutes vs).1
          (record { options = options; are = o; give = give; ends = options-end f e.options }),
      after-reads r.names f e.names e.after,
      once-true minutes names once,
    ) refl

record HeadRead (ts : List Token) (head : TaskHead) (us : List Token) : Type 0 where
  behind : List Token
  is : ts ≡ Word (codes "CREATE") ∷ Word (codes "TASK") ∷ behind
  reads : read_task_head behind ≡ Some (head, us)

head-read : Readers → {ts us : List Token} {name : List ℕ} {minutes : Option ℕ} {names : List (List ℕ)}
    → IsTaskHead ts name minutes names us → EndsHead us
    → HeadRead ts (record { name = name; minutes = minutes; after = names }) us
head-read r (task_head {ts = ts} n o give f once) e =
    record { behind = ts; is = refl; reads = head-reads r n o give f once e }

-- ---- pieces and WHEN

piece-read : (text : List ℕ) (placed : List Placed) (from to : ℕ) (part : List Placed) (kept : List ℕ) (ts : List Token)
    → between placed from to ≡ part → IsUtf8 (written text part) → IsKept text part kept
    → piece text placed from to ts ≡ Some (kept, ts)
unfolding piece
piece-read text placed from to part kept ts e utf8 k =
    let made : IsText (written text part) =
    record { utf8 = utf8; short = subst (λ (l : List ℕ). length l ≤ 65536) k.is k.short } in
    given-reads (text_of (written text (between placed from to))) kept ts
    (ap (λ (l : List Placed). text_of (written text l)) e ∙ text-read (written text part) made
    ∙ ap (λ (l : List ℕ). Some l) (sym k.is))

no_guard : (text : List ℕ) (placed : List Placed) (bs : List Token)
    → read_guard text placed (at_as bs) ≡ Some (None, at_as bs)
unfolding read_guard
no_guard text placed bs = rw (other_word (codes "WHEN") (codes "AS") bs refl) refl

a_guard : (text : List ℕ) (placed : List Placed) (gs vs : List Token) (c : WhenCondition) (kept : List ℕ)
    → read_condition most_nested gs ≡ Some (c, vs) → piece text placed (length gs) (length vs) vs ≡ Some (kept, vs)
    → read_guard text placed (Word (codes "WHEN") ∷ gs) ≡ Some (Some (record { condition = c; text = kept }), vs)
unfolding read_guard
a_guard text placed gs vs c kept h p = rw (sees_word_is (codes "WHEN") gs, h, p) refl

task-run : (text : List ℕ) (placed : List Placed) (ts us bs : List Token) (head : TaskHead) (when : Option When)
    (body : Dml) (kept : List ℕ)
    → read_task_head ts ≡ Some (head, us) → read_guard text placed us ≡ Some (when, at_as bs)
    → read_dml most_nested bs ≡ Some (body, []) → piece text placed (length bs) 0 [] ≡ Some (kept, [])
    → read_task text placed ts ≡ Some (made head when body kept, [])
unfolding read_task
task-run text placed ts us bs head when body kept h w b p = rw (h, w, expect_word_reads (codes "AS") bs, b, p) refl

table-run : (text : List ℕ) (placed : List Placed) (ts us bs : List Token) (name : List ℕ)
    (l : Lag) (m : RefreshMode) (i : Initialize) (q : Query) (kept : List ℕ)
    → IsName ts name us → read_table_options us ≡ Some ((l, (m, i)), at_as bs)
    → read_query most_nested bs ≡ Some (q, []) → piece text placed (length bs) 0 [] ≡ Some (kept, [])
    → read_dynamic_table text placed (Word (codes "TABLE") ∷ ts) ≡ Some (shown name l m i q kept, [])
unfolding read_dynamic_table
table-run text placed ts us bs name l m i q kept n o b p =
    rw (expect_word_reads (codes "TABLE") ts, name_reads n, o, expect_word_reads (codes "AS") bs, b, p) refl

created-task : (text : List ℕ) (placed : List Placed) (us : List Token)
    → read_create text placed (Word (codes "TASK") ∷ us) ≡ read_task text placed us
unfolding read_create object_of sees_word
created-task text placed us = refl

created-dynamic_table : (text : List ℕ) (placed : List Placed) (us : List Token)
    → read_create text placed (Word (codes "DYNAMIC") ∷ us) ≡ read_dynamic_table text placed us
unfolding read_create object_of sees_word
created-dynamic_table text placed us = refl

-- ---- over the tokens of a text

module _ (text : List ℕ) (placed : List Placed) (utf8 : IsUtf8 text) (tokens : HasTokens text placed) where
  -- the body, to the end
  body-read : (head body : List Placed) (kept : List ℕ) → placed ≡ head ++ body → IsKept text body kept
      → piece text placed (length (tokens_of body)) 0 [] ≡ Some (kept, [])
  body-read head body kept e k =
      let utf8_body = piece_is text placed head body [] utf8 tokens
      (e ∙ ap (λ (l : List Placed). head ++ l) (sym (nothing_behind body))) in
      piece-read text placed (length (tokens_of body)) 0 body kept [] (last_is head body e refl) utf8_body k

  -- the tokens, where the head's are known up to the token that ends it
  headed : (front : List Token) (t : Token) (head rest : List Placed) → placed ≡ head ++ rest
      → tokens_of head ≡ front ++ t ∷ []
      → tokens_of placed ≡ front ++ t ∷ tokens_of rest
  headed front t head rest e h =
      ap tokens_of e ∙ tokens-append head rest ∙ ap (λ (l : List Token). l ++ tokens_of rest) h
      ∙ append_assoc front (t ∷ []) (tokens_of rest)

  from-task : (ts : List Token) {s : Statement} → tokens_of placed ≡ Word (codes "CREATE") ∷ Word (codes "TASK") ∷ ts
      → read_task text placed ts ≡ Some (s, [])
      → read_words text placed (tokens_of placed) ≡ Some (s, [])
  from-task ts e h = ap (read_words text placed) e ∙ at-create text placed (Word (codes "TASK") ∷ ts)
      ∙ created-task text placed ts ∙ h

  task-read : Readers
      → (head body : List Placed) {name : List ℕ} {minutes : Option ℕ} {names : List (List ℕ)} {x : Dml} {kept : List ℕ}
      → placed ≡ head ++ body → IsTaskHead (tokens_of head) name minutes names (at_as [])
      → IsDml most_nested (tokens_of body) x [] → IsKept text body kept
      → read_words text placed (tokens_of placed)
      ≡ Some (made (record { name = name; minutes = minutes; after = names }) None x kept, [])
  task-read r head body {name} {minutes} {names} {x} {kept} e h b k =
      let f = task-frame r.names_frame r.task_options_frame h in
      let bs = tokens_of body in
      let run = head-read r (f.stands (at_as bs) refl) (as_ends bs) in
      from-task run.behind (headed f.front (Word (codes "AS")) head body e f.is ∙ run.is)
      (task-run text placed run.behind (at_as bs) bs
      (record { name = name; minutes = minutes; after = names }) None x kept run.reads (no_guard text placed bs)
      ((r.dml most_nested bs x []).1 (record { dml = b; ends = refl })) (body-read head body kept e k))

  guarded-read : Readers → (head guard body : List Placed) (link : Placed) {name : List ℕ} {minutes : Option ℕ}
      {names : List (List ℕ)} {condition : WhenCondition} {x : Dml} {kept body_kept : List ℕ}
      → placed ≡ head ++ (guard ++ link ∷ body)
      → IsTaskHead (tokens_of head) name minutes names (Word (codes "WHEN") ∷ [])
      → IsCondition most_nested (tokens_of guard) condition [] → IsKept text guard kept → link.token ≡ Word (codes "AS")
      → IsDml most_nested (tokens_of body) x [] → IsKept text body body_kept
      → read_words text placed (tokens_of placed)
      ≡ Some (
        made (record { name = name; minutes = minutes; after = names })
            (Some (record { condition = condition; text = kept })) x body_kept,
        [],
      )
  guarded-read r head guard body link {name} {minutes} {names} {condition} {x} {kept} {body_kept} e h c k l b body_k =
      let f = task-frame r.names_frame r.task_options_frame h in
      let bs = tokens_of body in
      let behind_is : tokens_of (link ∷ body) ≡ at_as bs = ap (λ (t : Token). t ∷ bs) l in
      let gs = tokens_of guard ++ at_as bs in
      let gs_is : tokens_of (guard ++ link ∷ body) ≡ gs =
      tokens-append guard (link ∷ body) ∙ ap (λ (l : List Token). tokens_of guard ++ l) behind_is in
      let all_is : tokens_of placed ≡ f.front ++ Word (codes "WHEN") ∷ gs =
      headed f.front (Word (codes "WHEN")) head (guard ++ link ∷ body) e f.is
      ∙ ap (λ (l : List Token). f.front ++ Word (codes "WHEN") ∷ l) gs_is in
      let run = head-read r (f.stands (Word (codes "WHEN") ∷ gs) refl) (when_ends gs) in
      let body_at : placed ≡ (head ++ (guard ++ link ∷ [])) ++ body =
      e ∙ ap (λ (m : List Placed). head ++ m) (sym (append_assoc guard (link ∷ []) body))
      ∙ sym (append_assoc head (guard ++ link ∷ []) body) in
      let condition_read = (r.conditions most_nested gs condition (at_as bs)).1
      (record { condition = r.condition_back most_nested (tokens_of guard) condition (at_as bs) c; ends = refl }) in
      from-task run.behind (all_is ∙ run.is)
      (task-run text placed run.behind (Word (codes "WHEN") ∷ gs) bs
      (record { name = name; minutes = minutes; after = names })
      (Some (record { condition = condition; text = kept })) x body_kept run.reads
      (a_guard text placed gs (at_as bs) condition kept condition_read
      (piece-read text placed (length gs) (length (at_as bs)) guard kept (at_as bs)
      (between_is head guard (link ∷ body) e gs_is behind_is)
      (piece_is text placed head guard (link ∷ body) utf8 tokens e) k))
      ((r.dml most_nested bs x []).1 (record { dml = b; ends = refl }))
      (body-read (head ++ (guard ++ link ∷ [])) body body_kept body_at body_k))

  table-made : Readers
      → {ts : List Token} (bs : List Token) {name kept : List ℕ}
      {l : Lag} {m : RefreshMode} {i : Initialize} {q : Query}
      → tokens_of placed ≡ ts → IsTableHead ts name l m i (at_as bs) → IsQuery most_nested bs q []
      → piece text placed (length bs) 0 [] ≡ Some (kept, [])
      → read_words text placed (tokens_of placed) ≡ Some (shown name l m i q kept, [])
  table-made r bs {name} {kept} {l} {m} {i} {q} e (table_head {ts = ts} {us = us} {options = options} n o give) b p =
      ap (read_words text placed) e ∙ at-create text placed (Word (codes "DYNAMIC") ∷ Word (codes "TABLE") ∷ ts)
      ∙ created-dynamic_table text placed (Word (codes "TABLE") ∷ ts)
      ∙ table-run text placed ts us bs name l m i q kept n
      ((r.table_options us l m i (at_as bs)).1 (record { options = options; are = o; give = give; ends = refl }))
      ((r.queries most_nested bs q []).1 (record { query = b; ends = refl })) p

  table-read : Readers
      → (head body : List Placed) {name : List ℕ}
      {l : Lag} {m : RefreshMode} {i : Initialize} {q : Query} {kept : List ℕ}
      → placed ≡ head ++ body → IsTableHead (tokens_of head) name l m i (at_as [])
      → IsQuery most_nested (tokens_of body) q [] → IsKept text body kept
      → read_words text placed (tokens_of placed) ≡ Some (shown name l m i q kept, [])
  table-read r head body {kept = kept} e h b k =
      let f = table-frame r.table_options_frame h in
      table-made r (tokens_of body) (headed f.front (Word (codes "AS")) head body e f.is)
      (f.stands (at_as (tokens_of body)) refl) b (body-read head body kept e k)

  pub words-read : Readers → {s : Statement} → IsStatement text placed s
      → read_words text placed (tokens_of placed) ≡ Some (s, [])
  words-read r (g.plain h) = plain-read text placed r h
  words-read r (g.create_task (g.task head body e h b k)) = task-read r head body e h b k
  words-read r (g.create_task (g.guarded_task head guard body link e h c k l b body_k)) =
      guarded-read r head guard body link e h c k l b body_k
  words-read r (g.create_dynamic_table (g.dynamic_table head body e h b k)) = table-read r head body e h b k
