-- What CREATE DYNAMIC TABLE keeps of its text spells, by itself, the query.
use Rattle.std.proofs.Common.{List, [], ℕ, sym, subst, IsUtf8}
use Rattle.wh_ast.specs.declared.query.Query.{Query}
use Rattle.wh_ast.specs.declared.statement.Statement.TheVariants as st
use Rattle.wh_ast.specs.declared.statement.CreateDynamicTable.{CreateDynamicTable}
use Rattle.wh_grammar.specs.Token.{Token, Placed}
use Rattle.wh_grammar.specs.Lexing.{HasTokens}
use Rattle.wh_grammar.specs.Parts.{no_order}
use Rattle.wh_grammar.specs.Query.{IsQuery}
use Rattle.wh_grammar.specs.Spelled as g
use Rattle.wh_grammar.specs.Spelled.{Spells, IsStatement, IsPlain, IsDynamicTable, IsKept, most_nested, tokens_of}
use Rattle.wh_state.proofs.TextParts.{IsPart}
use Rattle.wh_state.proofs.KeptLaws.{last_is}

part_spelled : {kept : List ℕ} {ts : List Placed} {q : Query} → IsPart kept ts
    → IsQuery most_nested (tokens_of ts) q [] → Spells kept (st.Select q [])
part_spelled {q = q} p is = record {
  utf8 = p.utf8;
  placed = p.placed;
  tokens = p.has;
  is_statement = g.plain
      (g.select (subst (λ (us : List Token). IsQuery most_nested us q []) (sym p.same) is) no_order);
}

kept_spelled : {text : List ℕ} {placed : List Placed} {t : CreateDynamicTable} → IsUtf8 text → HasTokens text placed
    → IsDynamicTable text placed t → Spells t.query_text (st.Select t.query [])
kept_spelled {text} {placed} utf8 h (g.dynamic_table head body e b is k) =
    part_spelled (last_is text placed head body utf8 h e k) is

not_plain : {ts : List Token} {t : CreateDynamicTable} → IsPlain ts (st.CreateDynamicTable t) → ⊥
not_plain (g.of_table p) = elim p [ ]
not_plain (g.of_stream p) = elim p [ ]
not_plain (g.of_task p) = elim p [ ]
not_plain (g.of_dynamic_table p) = elim p [ ]
not_plain (g.of_transaction p) = elim p [ ]

pub query_spelled : (text : List ℕ) (t : CreateDynamicTable) → Spells text (st.CreateDynamicTable t)
    → Spells t.query_text (st.Select t.query [])
query_spelled text t s = by_statement s.is_statement
  where
    by_statement : IsStatement text s.placed (st.CreateDynamicTable t) → Spells t.query_text (st.Select t.query [])
    by_statement (g.plain p) = absurd (not_plain p)
    by_statement (g.create_dynamic_table k) = kept_spelled s.utf8 s.tokens k
