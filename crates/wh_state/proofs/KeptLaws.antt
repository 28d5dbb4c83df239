-- What CREATE TASK keeps of its text spells, by itself, what the task runs.
--     task_spelled     the statement behind AS, and the condition of WHEN
use Rattle.std.proofs.Common.{◌≡◌, List, [], ◌∷◌, ◌++◌, ℕ, sym, ap, ◌∙◌, subst, append_assoc, append-nil, IsUtf8}
use Rattle.wh_ast.specs.declared.dml.Dml.{Dml}
use Rattle.wh_ast.specs.declared.statement.Statement.TheVariants as st
use Rattle.wh_ast.specs.declared.statement.CreateTask.{CreateTask}
use Rattle.wh_ast.specs.declared.statement.WhenCondition.{WhenCondition}
use Rattle.wh_grammar.specs.Token.{Token, Placed}
use Rattle.wh_grammar.specs.Lexing.{HasTokens}
use Rattle.wh_grammar.specs.Changing.{IsDml}
use Rattle.wh_grammar.specs.Parts.{IsCondition}
use Rattle.wh_grammar.specs.Spelled as g
use Rattle.wh_grammar.specs.Spelled.{Spells, IsStatement, IsPlain, IsTask, IsKept, most_nested, tokens_of}
use Rattle.wh_state.specs.Task.{TaskBody, SpellsCondition, IsSpelled}
use Rattle.wh_state.proofs.TextParts.{IsPart, part_is}

-- ---- a text that is kept

kept_is : (text : List ℕ) (placed head ts tail : List Placed) {kept : List ℕ} → IsUtf8 text → HasTokens text placed
    → placed ≡ head ++ (ts ++ tail) → IsKept text ts kept → IsPart kept ts
kept_is text placed head ts tail utf8 h e k =
    subst (λ (l : List ℕ). IsPart l ts) (sym k.is) (part_is text placed head ts tail utf8 h e)

-- to the end of the text
pub last_is : (text : List ℕ) (placed head ts : List Placed) {kept : List ℕ} → IsUtf8 text → HasTokens text placed
    → placed ≡ head ++ ts → IsKept text ts kept → IsPart kept ts
last_is text placed head ts utf8 h e k =
    kept_is text placed head ts [] utf8 h (e ∙ ap (λ (l : List Placed). head ++ l) (sym (append-nil ts))) k

dml_spelled : {kept : List ℕ} {ts : List Placed} {x : Dml} → IsPart kept ts → IsDml most_nested (tokens_of ts) x []
    → Spells kept (st.Dml x)
dml_spelled {x = x} p is = record {
  utf8 = p.utf8;
  placed = p.placed;
  tokens = p.has;
  is_statement = g.plain (g.dml (subst (λ (us : List Token). IsDml most_nested us x []) (sym p.same) is));
}

condition_spelled : {kept : List ℕ} {ts : List Placed} {condition : WhenCondition} → IsPart kept ts
    → IsCondition most_nested (tokens_of ts) condition [] → SpellsCondition kept condition
condition_spelled {condition = condition} p is = record {
  utf8 = p.utf8;
  placed = p.placed;
  tokens = p.has;
  is_condition = subst (λ (us : List Token). IsCondition most_nested us condition []) (sym p.same) is;
}

-- ---- CREATE TASK

abbrev runs_of : CreateTask → TaskBody
runs_of t = record { when = t.when; body = t.body; body_text = t.body_text }

kept_spelled : {text : List ℕ} {placed : List Placed} {t : CreateTask} → IsUtf8 text → HasTokens text placed
    → IsTask text placed t → IsSpelled (runs_of t)
kept_spelled {text} {placed} utf8 h (g.task head body e b is k) =
    record { when = tt; body = dml_spelled (last_is text placed head body utf8 h e k) is }
kept_spelled {text} {placed} utf8 h (g.guarded_task head guard body link e b is k l d m) =
    let body_at : placed ≡ (head ++ (guard ++ link ∷ [])) ++ body =
    e ∙ ap (λ (l : List Placed). head ++ l) (sym (append_assoc guard (link ∷ []) body))
    ∙ sym (append_assoc head (guard ++ link ∷ []) body) in record {
      when = condition_spelled (kept_is text placed head guard (link ∷ body) utf8 h e k) is;
      body = dml_spelled (last_is text placed (head ++ (guard ++ link ∷ [])) body utf8 h body_at m) d;
    }

not_plain : {ts : List Token} {t : CreateTask} → IsPlain ts (st.CreateTask t) → ⊥
not_plain (g.of_table p) = elim p [ ]
not_plain (g.of_stream p) = elim p [ ]
not_plain (g.of_task p) = elim p [ ]
not_plain (g.of_dynamic_table p) = elim p [ ]
not_plain (g.of_transaction p) = elim p [ ]

pub task_spelled : (text : List ℕ) (t : CreateTask) → Spells text (st.CreateTask t)
    → IsSpelled (record { when = t.when; body = t.body; body_text = t.body_text })
task_spelled text t s = by_statement s.is_statement
  where
    by_statement : IsStatement text s.placed (st.CreateTask t) → IsSpelled (runs_of t)
    by_statement (g.plain p) = absurd (not_plain p)
    by_statement (g.create_task k) = kept_spelled s.utf8 s.tokens k
