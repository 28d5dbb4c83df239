-- A task with its condition, from its text to the texts that are kept of it, worked out by hand.
use Rattle.std.proofs.Common.{◌≡◌, ℕ, List, [], ◌∷◌, ◌++◌, Some, None, inl, refl, arith}
use Rattle.std.specs.Prelude.{codes}
use Rattle.wh_ast.specs.declared.dml.Dml.TheVariants as dml
use Rattle.wh_ast.specs.declared.statement.Statement.{Statement}
use Rattle.wh_ast.specs.declared.statement.Statement.TheVariants as st
use Rattle.wh_ast.specs.declared.statement.WhenCondition.TheVariants as c
use Rattle.wh_grammar.specs.Words.{is_reserved, is_call}
use Rattle.wh_grammar.specs.Token.{Placed, Word, TextToken, SignToken, LParen, RParen}
use Rattle.wh_grammar.specs.Lexing as lex
use Rattle.wh_grammar.specs.Lexing.{IsToken, HasTokens, end, gap, token}
use Rattle.wh_grammar.specs.Name as name
use Rattle.wh_grammar.specs.Query.{no_filter}
use Rattle.wh_grammar.specs.Changing.{delete}
use Rattle.wh_grammar.specs.OptionText.{word_text}
use Rattle.wh_grammar.specs.Parts.{asks, one_cand, one_cnot, has_data, no_more, nothing}
use Rattle.wh_grammar.specs.Spelled.{follows_none, task_head, create_task, guarded_task, Spells}
use Rattle.wh_grammar.proofs.KnownTokens.{known_text}

-- two blanks stand inside the statement that the task runs
abbrev text : List ℕ
text = codes "CREATE TASK A WHEN SYSTEM$STREAM_HAS_DATA('S') AS DELETE  FROM T"

abbrev head : List Placed
head = (record { token = Word (codes "CREATE"); from = 64; behind = 58 })
    ∷ (record { token = Word (codes "TASK"); from = 57; behind = 53 })
    ∷ (record { token = Word (codes "A"); from = 52; behind = 51 })
    ∷ (record { token = Word (codes "WHEN"); from = 50; behind = 46 }) ∷ []

abbrev guard : List Placed
guard = (record { token = Word (codes "SYSTEM$STREAM_HAS_DATA"); from = 45; behind = 23 })
    ∷ (record { token = SignToken LParen; from = 23; behind = 22 })
    ∷ (record { token = TextToken (codes "S"); from = 22; behind = 19 })
    ∷ (record { token = SignToken RParen; from = 19; behind = 18 }) ∷ []

abbrev link : Placed
link = record { token = Word (codes "AS"); from = 17; behind = 15 }

abbrev body : List Placed
body = (record { token = Word (codes "DELETE"); from = 14; behind = 8 })
    ∷ (record { token = Word (codes "FROM"); from = 6; behind = 2 })
    ∷ (record { token = Word (codes "T"); from = 1; behind = 0 }) ∷ []

space : {bytes rest : List ℕ} {ts : List Placed} → bytes ≡ 32 ∷ rest → HasTokens rest ts → HasTokens bytes ts
space e more = gap (lex.blank 32 e refl) more

has_tokens : HasTokens text (head ++ (guard ++ link ∷ body))
has_tokens =
    token (lex.bare (lex.word 67 (codes "REATE") refl refl refl refl (known_text (codes "CREATE") refl refl) refl))
    (space refl
    (token (lex.bare (lex.word 84 (codes "ASK") refl refl refl refl (known_text (codes "TASK") refl refl) refl))
    (space refl
    (token (lex.bare (lex.word 65 (codes "") refl refl refl refl (known_text (codes "A") refl refl) refl))
    (space refl
    (token (lex.bare (lex.word 87 (codes "HEN") refl refl refl refl (known_text (codes "WHEN") refl refl) refl))
    (space refl
    (token (lex.bare (lex.word 83 (codes "YSTEM$STREAM_HAS_DATA") refl refl refl refl
    (known_text (codes "SYSTEM$STREAM_HAS_DATA") refl refl) refl))
    (token (lex.signed (lex.sign LParen refl refl refl))
    (token (lex.enclosed (lex.text (codes "S") refl (known_text (codes "S") refl refl) refl refl refl))
    (token (lex.signed (lex.sign RParen refl refl refl)) (space refl
    (token (lex.bare (lex.word 65 (codes "S") refl refl refl refl (known_text (codes "AS") refl refl) refl))
    (space refl
    (token (lex.bare (lex.word 68 (codes "ELETE") refl refl refl refl (known_text (codes "DELETE") refl refl) refl))
    (space refl (space refl
    (token (lex.bare (lex.word 70 (codes "ROM") refl refl refl refl (known_text (codes "FROM") refl refl) refl))
    (space refl
    (token (lex.bare (lex.word 84 (codes "") refl refl refl refl (known_text (codes "T") refl refl) refl))
    end))))))))))))))))))))

-- each kept text is what stands from its first token to its last, the blanks inside with it and those around it not
task : Statement
task = st.CreateTask (record {
  name = codes "A";
  minutes = None;
  after = [];
  when = Some (record { condition = c.HasData (codes "S"); text = codes "SYSTEM$STREAM_HAS_DATA('S')" });
  body = dml.Delete (codes "T") None;
  body_text = codes "DELETE  FROM T";
})

task_with_its_texts : Spells text task
unfolding is_reserved is_call task
task_with_its_texts = record {
  utf8 = (known_text text refl refl).utf8;
  placed = head ++ (guard ++ link ∷ body);
  tokens = has_tokens;
  is_statement = create_task (guarded_task head guard body link refl
      (task_head (name.word refl refl) no_more nothing follows_none (inl refl))
      (one_cand (one_cnot (has_data (asks
      (word_text (lex.bare (lex.word 83 (codes "") refl refl refl refl (known_text (codes "S") refl refl) refl))
      refl)))))
      (record { is = refl; short = omega arith }) refl
      (delete (name.word refl refl) no_filter)
      (record { is = refl; short = omega arith }));
}
