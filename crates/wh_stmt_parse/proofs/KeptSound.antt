-- What is read as a statement that keeps parts of its text is one.
use Rattle.std.proofs.Common.{◌≡◌, ℕ, ◌≤◌, ◌⊎◌, inl, inr, Bool, true, false, List, [], ◌∷◌, ◌++◌, Option, Some, None}
use Rattle.std.proofs.Common.{length, refl, sym, ap, ◌∙◌, subst, append_assoc}
use Rattle.std.specs.Prelude.{codes}
use Rattle.std.proofs.lemmas.Option.{same_Some}
use Rattle.wh_ast.specs.declared.dml.Dml.{Dml}
use Rattle.wh_ast.specs.declared.query.Query.{Query}
use Rattle.wh_ast.specs.declared.statement.Statement.{Statement}
use Rattle.wh_ast.specs.declared.statement.Statement.TheVariants as st
use Rattle.wh_ast.specs.declared.statement.When.{When}
use Rattle.wh_ast.specs.declared.statement.Lag.{Lag}
use Rattle.wh_ast.specs.declared.statement.RefreshMode.{RefreshMode}
use Rattle.wh_ast.specs.declared.statement.Initialize.{Initialize}
use Rattle.wh_grammar.specs.Token.{Token, Word, Placed}
use Rattle.wh_grammar.specs.Changing.{IsDml}
use Rattle.wh_grammar.specs.Query.{IsQuery}
use Rattle.wh_grammar.specs.Parts.{IsCondition, AreTableOptions}
use Rattle.wh_grammar.specs.Spelled as g
use Rattle.wh_grammar.specs.Spelled.{IsStatement, IsTaskHead, task_head, IsTableHead, table_head, most_nested}
use Rattle.wh_grammar.specs.Spelled.{tokens_of, written, IsKept, task_of}
use Rattle.wh_cursor.specs.Steps.{tail, Reader, and_then}
use Rattle.wh_cursor.proofs.Yields.{Yields, yields, nothing, follow, yields_law}
use Rattle.wh_cursor.proofs.Combine.{if_eaten_word, then_expect_word, name-yields}
use Rattle.wh_query_parse.specs.Follow.{IsQueryAt}
use Rattle.wh_option_parse.specs.Follow.{IsConditionAt, AreTaskOptionsAt, AreTableOptionsAt}
use Rattle.wh_dml_parse.specs.Follow.{IsDmlAt}
use Rattle.wh_stmt_parse.specs.declared.kept.TaskHead.{TaskHead}
use Rattle.wh_lex.specs.Front.{text_of}
use Rattle.wh_lex.proofs.TextLemmas.{of_text}
use Rattle.wh_stmt_parse.specs.KeptText.{between, starts_once, checked, read_task_head, piece, guard_by, read_guard}
use Rattle.wh_stmt_parse.specs.KeptText.{read_task, read_dynamic_table}
use Rattle.wh_stmt_parse.proofs.Heads.{task-frame, table-frame}
use Rattle.wh_cursor.proofs.Combine.{given-yields}
use Rattle.wh_stmt_parse.proofs.Carrying.{stand, cons}
use Rattle.wh_stmt_parse.proofs.Parting.{parted, linked, between_is, last_is}
use Rattle.wh_stmt_parse.proofs.PartsSound.{after-sound}
use Rattle.wh_stmt_parse.proofs.Readers.{Readers}

-- ---- steps

checked-yields : {B : Type 0} (b : Bool) (ts : List Token) (f : Unit {0} → Reader B) {Q : B → List Token → Type 0}
    → (b ≡ true → Yields (f tt ts) Q)
    → Yields (and_then (checked b ts) f) Q
checked-yields true ts f k = record { is = (k refl).is }
checked-yields false ts f k = nothing

text_kept : (text : List ℕ) (ts : List Placed) (kept : List ℕ) → text_of (written text ts) ≡ Some kept
    → IsKept text ts kept
text_kept text ts kept = of_text (λ o. o ≡ Some kept → IsKept text ts kept) (written text ts)
    (λ made h. let is : written text ts ≡ kept = same_Some _ _ h in
    record { is = sym is; short = subst (λ (l : List ℕ). length l ≤ 65536) is made.short })
    (λ h. absurd (cc))

piece-sound : (text : List ℕ) (placed : List Placed) (from to : ℕ) (ts : List Token)
    → Yields (piece text placed from to ts) (λ kept us. (us ≡ ts) × IsKept text (between placed from to) kept)
unfolding piece
piece-sound text placed from to ts =
    given-yields (text_of (written text (between placed from to))) ts (λ kept h. (refl, text_kept text _ kept h))

-- ---- the head of a task

one_start : (minutes : Option ℕ) (names : List (List ℕ)) → starts_once minutes names ≡ true
    → (minutes ≡ None) ⊎ (names ≡ [])
one_start None names h = inl refl
one_start (Some n) [] h = inr refl
one_start (Some n) (name ∷ names) h = absurd (cc)

abbrev HasHead : List Token → TaskHead → List Token → Type 0
HasHead ts head us = IsTaskHead (Word (codes "CREATE") ∷ Word (codes "TASK") ∷ ts) head.name head.minutes head.after us

head-sound : Readers → (ts : List Token) → Yields (read_task_head ts) (λ head us. HasHead ts head us)
unfolding read_task_head
head-sound r ts = follow (name-yields ts) (λ name us h.
    follow (yields_law {Q = λ minutes vs. AreTaskOptionsAt us minutes vs}
    (λ minutes vs i. (r.task_options us minutes vs).0 i)) (λ minutes vs o.
    follow (after-sound r.names vs) (λ names ws f. checked-yields (starts_once minutes names) ws _ (λ once.
    yields (record { name = name; minutes = minutes; after = names }) ws
    (task_head h o.are o.give f (one_start minutes names once))))))

-- ---- WHEN

-- a condition and its text stand between two places
pub record HasGuard (text : List ℕ) (placed : List Placed) (us : List Token)
    (guard : When) (vs : List Token) : Type 0 where
  pub condition : IsConditionAt most_nested us guard.condition vs
  pub kept : IsKept text (between placed (length us) (length vs)) guard.text

abbrev MayGuard : List ℕ → List Placed → List Token → Option When → List Token → Type 0
MayGuard text placed us None vs = us ≡ vs
MayGuard text placed us (Some guard) vs = (us ≡ Word (codes "WHEN") ∷ tail us) × HasGuard text placed (tail us) guard vs

guard-sound : Readers → (text : List ℕ) (placed : List Placed) (ts : List Token)
    → Yields (read_guard text placed ts) (λ when us. MayGuard text placed ts when us)
unfolding read_guard
guard-sound r text placed ts = if_eaten_word (codes "WHEN") ts (guard_by text placed)
    (λ w. follow (yields_law {Q = λ c us. IsConditionAt most_nested (tail ts) c us}
    (λ c us h. (r.conditions most_nested (tail ts) c us).0 h)) (λ c us h.
    follow (piece-sound text placed (length (tail ts)) (length us) us) (λ kept vs i.
    yields (Some (record { condition = c; text = kept })) vs (
      w,
      subst (λ (vs : List Token). HasGuard text placed (tail ts) (record { condition = c; text = kept }) vs) (sym i.0)
          (record { condition = h; kept = i.1 }),
    ))))
    (λ _. yields None ts refl)

-- ---- CREATE TASK

abbrev pub made : TaskHead → Option When → Dml → List ℕ → Statement
made head when body kept = st.CreateTask (task_of head.name head.minutes head.after when body kept)

abbrev pub at_as : List Token → List Token
at_as bs = Word (codes "AS") ∷ bs

-- the head, and one token behind it
one_more : (fronts : List Token) (t : Token) (us : List Token) → fronts ++ t ∷ us ≡ (fronts ++ t ∷ []) ++ us
one_more fronts t us = sym (append_assoc fronts (t ∷ []) us)

task_made : Readers
    → (text : List ℕ) (placed : List Placed) (ts : List Token) (head : TaskHead) (bs : List Token)
    (body : Dml) (kept : List ℕ)
    → tokens_of placed ≡ Word (codes "CREATE") ∷ Word (codes "TASK") ∷ ts → HasHead ts head (at_as bs)
    → IsDml most_nested bs body [] → IsKept text (between placed (length bs) 0) kept
    → IsStatement text placed (made head None body kept)
task_made r text placed ts head bs body kept e h b k =
    let f = task-frame r.names_frame r.task_options_frame h in
    let p = parted placed (f.front ++ at_as []) bs (e ∙ f.is ∙ one_more f.front _ bs) in
    g.create_task (g.task p.head p.body p.is
    (stand (λ (ts : List Token). IsTaskHead ts head.name head.minutes head.after (at_as []))
    p.head_is (f.stands (at_as []) refl))
    (stand (λ (ts : List Token). IsDml most_nested ts body []) p.body_is b)
    (subst (λ (ps : List Placed). IsKept text ps kept) (last_is p.head p.body p.is p.body_is) k))

guarded_made : Readers
    → (text : List ℕ) (placed : List Placed) (ts : List Token) (head : TaskHead) (gs : List Token)
    (guard : When) (bs : List Token) (body : Dml) (kept : List ℕ)
    → tokens_of placed ≡ Word (codes "CREATE") ∷ Word (codes "TASK") ∷ ts → HasHead ts head (Word (codes "WHEN") ∷ gs)
    → HasGuard text placed gs guard (at_as bs) → IsDml most_nested bs body []
    → IsKept text (between placed (length bs) 0) kept
    → IsStatement text placed (made head (Some guard) body kept)
guarded_made r text placed ts head gs guard bs body kept e h w b k =
    let f = task-frame r.names_frame r.task_options_frame h in
    let c = r.condition_frame most_nested gs guard.condition (at_as bs) w.condition.condition in
    let p = parted placed (f.front ++ Word (codes "WHEN") ∷ []) gs (e ∙ f.is ∙ one_more f.front _ gs) in
    let q = parted p.body c.0 (at_as bs) (p.body_is ∙ c.1) in
    let l = linked q.body (Word (codes "AS")) bs q.body_is in
    let rest_is : p.body ≡ q.head ++ l.link ∷ l.body = q.is ∙ ap (λ (l : List Placed). q.head ++ l) l.is in
    let all_is : placed ≡ p.head ++ (q.head ++ l.link ∷ l.body) =
    p.is ∙ ap (λ (l : List Placed). p.head ++ l) rest_is in
    let guard_at = between_is p.head q.head (l.link ∷ l.body) all_is
    (ap tokens_of (sym rest_is) ∙ p.body_is) (ap tokens_of (sym l.is) ∙ q.body_is) in
    let body_at : placed ≡ (p.head ++ (q.head ++ l.link ∷ [])) ++ l.body =
    all_is ∙ ap (λ (m : List Placed). p.head ++ m) (sym (append_assoc q.head (l.link ∷ []) l.body))
    ∙ sym (append_assoc p.head (q.head ++ l.link ∷ []) l.body) in
    g.create_task (g.guarded_task p.head q.head l.body l.link all_is
    (stand (λ (ts : List Token). IsTaskHead ts head.name head.minutes head.after (Word (codes "WHEN") ∷ [])) p.head_is
    (f.stands (Word (codes "WHEN") ∷ []) refl))
    (stand (λ (ts : List Token). IsCondition most_nested ts guard.condition []) q.head_is c.2)
    (subst (λ (ps : List Placed). IsKept text ps guard.text) guard_at w.kept)
    l.link_is (stand (λ (ts : List Token). IsDml most_nested ts body []) l.body_is b)
    (subst (λ (ps : List Placed). IsKept text ps kept)
    (last_is (p.head ++ (q.head ++ l.link ∷ [])) l.body body_at l.body_is) k))

any_task : Readers
    → (text : List ℕ) (placed : List Placed) (ts : List Token) (head : TaskHead) (us : List Token) (when : Option When)
    (vs : List Token) (body : Dml) (kept : List ℕ)
    → tokens_of placed ≡ Word (codes "CREATE") ∷ Word (codes "TASK") ∷ ts → HasHead ts head us
    → MayGuard text placed us when vs → vs ≡ at_as (tail vs) → IsDml most_nested (tail vs) body []
    → IsKept text (between placed (length (tail vs)) 0) kept
    → IsStatement text placed (made head when body kept)
any_task r text placed ts head us None vs body kept e h w a b k =
    task_made r text placed ts head (tail vs) body kept e (subst (HasHead ts head) (w ∙ a) h) b k
any_task r text placed ts head us (Some guard) vs body kept e h w a b k =
    guarded_made r text placed ts head (tail us) guard (tail vs) body kept e (subst (HasHead ts head) w.0 h)
    (subst (HasGuard text placed (tail us) guard) a w.1) b k

pub task-sound : Readers → (text : List ℕ) (placed : List Placed) (ts : List Token)
    → tokens_of placed ≡ Word (codes "CREATE") ∷ Word (codes "TASK") ∷ ts
    → Yields (read_task text placed ts) (λ s us. us ≡ [] → IsStatement text placed s)
unfolding read_task
task-sound r text placed ts e = follow (head-sound r ts)
    (λ head us h. follow (guard-sound r text placed us) (λ when vs w. then_expect_word (codes "AS") vs _ (λ a.
    follow (yields_law {Q = λ x ws. IsDmlAt most_nested (tail vs) x ws}
    (λ x ws i. (r.dml most_nested (tail vs) x ws).0 i)) (λ body ws b.
    follow (piece-sound text placed (length (tail vs)) 0 ws) (λ kept rs k. yields (made head when body kept) rs (λ end.
    any_task r text placed ts head us when vs body kept e h w a
    (subst (λ (ws : List Token). IsDml most_nested (tail vs) body ws) b.ends b.dml) k.1))))))

-- ---- CREATE DYNAMIC TABLE

abbrev pub shown : List ℕ → Lag → RefreshMode → Initialize → Query → List ℕ → Statement
shown name l m i q kept =
    st.CreateDynamicTable (record { name = name; lag = l; mode = m; initialize = i; query = q; query_text = kept })

table_made : Readers
    → (text : List ℕ) (placed : List Placed) (ts : List Token) (name : List ℕ)
    (l : Lag) (m : RefreshMode) (i : Initialize) (bs : List Token) (q : Query) (kept : List ℕ)
    → tokens_of placed ≡ ts → IsTableHead ts name l m i (at_as bs) → IsQuery most_nested bs q []
    → IsKept text (between placed (length bs) 0) kept
    → IsStatement text placed (shown name l m i q kept)
table_made r text placed ts name l m i bs q kept e h b k =
    let f = table-frame r.table_options_frame h in
    let p = parted placed (f.front ++ at_as []) bs (e ∙ f.is ∙ one_more f.front _ bs) in
    g.create_dynamic_table (g.dynamic_table p.head p.body p.is
    (stand (λ (ts : List Token). IsTableHead ts name l m i (at_as [])) p.head_is (f.stands (at_as []) refl))
    (stand (λ (ts : List Token). IsQuery most_nested ts q []) p.body_is b)
    (subst (λ (ps : List Placed). IsKept text ps kept) (last_is p.head p.body p.is p.body_is) k))

pub dynamic_table-sound : Readers → (text : List ℕ) (placed : List Placed) (ts : List Token)
    → tokens_of placed ≡ Word (codes "CREATE") ∷ Word (codes "DYNAMIC") ∷ ts
    → Yields (read_dynamic_table text placed ts) (λ s us. us ≡ [] → IsStatement text placed s)
unfolding read_dynamic_table
dynamic_table-sound r text placed ts e =
    then_expect_word (codes "TABLE") ts _ (λ t. follow (name-yields (tail ts)) (λ name us n.
    follow (yields_law {Q = λ o vs. AreTableOptionsAt us o.0 o.1.0 o.1.1 vs}
    (λ o vs h. (r.table_options us o.0 o.1.0 o.1.1 vs).0 h)) (λ options vs o.
    then_expect_word (codes "AS") vs _ (λ a.
    follow (yields_law {Q = λ q ws. IsQueryAt most_nested (tail vs) q ws}
    (λ q ws h. (r.queries most_nested (tail vs) q ws).0 h)) (λ q ws b.
    follow (piece-sound text placed (length (tail vs)) 0 ws)
    (λ kept rs k. yields (shown name options.0 options.1.0 options.1.1 q kept) rs (λ end.
    table_made r text placed _ name options.0 options.1.0 options.1.1 (tail vs) q kept (e ∙ cons _ (cons _ t))
    (table_head n (subst (λ (vs : List Token). AreTableOptions us o.options vs) a o.are) o.give)
    (subst (λ (ws : List Token). IsQuery most_nested (tail vs) q ws) (sym k.0 ∙ end) b.query) k.1)))))))
