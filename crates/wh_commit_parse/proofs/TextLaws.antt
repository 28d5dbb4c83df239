-- Conditions that texts spell.
--     no_condition            an empty one spells none
--     condition_is_read       what is spelled is read
use Rattle.std.proofs.Common.{◌≡◌, ℕ, List, [], Some, refl, sym, ap, subst}
use Rattle.wh_ast.specs.declared.statement.WhenCondition.{WhenCondition}
use Rattle.wh_grammar.specs.Token.{Token}
use Rattle.wh_grammar.specs.Lexing.{HasTokens, end}
use Rattle.wh_grammar.specs.Parts.{asks, IsCondition, one_cand, or_condition, IsAndCondition, one_cnot, and_condition}
use Rattle.wh_grammar.specs.Parts.{IsNotCondition, not_condition, inner_condition, has_data}
use Rattle.wh_grammar.specs.Spelled.{tokens_of, most_nested}
use Rattle.wh_lex.proofs.TokenLaws.{text_fixes_tokens}
use Rattle.wh_option_parse.specs.Read.{read_condition}
use Rattle.wh_option_parse.proofs.Reading.{conditions_read}
use Rattle.wh_state.specs.Task.{SpellsCondition}

mutual
  condition_begins : {d : ℕ} {ts us : List Token} {x : WhenCondition} → IsCondition d ts x us → ts ≡ [] → ⊥
  condition_begins (one_cand h) none = and_begins h none
  condition_begins (or_condition h l) none = condition_begins h none

  and_begins : {d : ℕ} {ts us : List Token} {x : WhenCondition} → IsAndCondition d ts x us → ts ≡ [] → ⊥
  and_begins (one_cnot h) none = not_begins h none
  and_begins (and_condition h l) none = and_begins h none

  not_begins : {d : ℕ} {ts us : List Token} {x : WhenCondition} → IsNotCondition d ts x us → ts ≡ [] → ⊥
  not_begins (not_condition h) none = cc
  not_begins (inner_condition h) none = cc
  not_begins (has_data (asks h)) none = cc

pub no_condition : (text : List ℕ) (x : WhenCondition) → text ≡ [] → SpellsCondition text x → ⊥
no_condition text x empty h =
    let at_end = subst (λ (bytes : List ℕ). HasTokens bytes []) (sym empty) end in
    let none = text_fixes_tokens text h.placed [] h.tokens at_end in
    condition_begins h.is_condition (ap tokens_of none)

pub condition_is_read : (ts : List Token) (x : WhenCondition) → IsCondition most_nested ts x []
    → read_condition most_nested ts ≡ Some (x, [])
condition_is_read ts x h = (conditions_read most_nested ts x []).1 (record { condition = h; ends = refl })
