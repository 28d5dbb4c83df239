-- Tokens whose words and quoted names are not empty.
--     TokenFilled, AllFilled      of one token, and of all
--     name_filled, alias_filled   names among them
use Rattle.std.proofs.Common.{ℕ, ◌<◌, List, length}
use Rattle.std.specs.List.{AllByRecursion}
use Rattle.wh_grammar.specs.Token.{Token, Word, Quoted}
use Rattle.wh_grammar.specs.Name as names
use Rattle.wh_grammar.specs.Name.{IsName}
use Rattle.wh_grammar.specs.Query as g
use Rattle.wh_grammar.specs.Query.{IsAlias}

abbrev pub TokenFilled : Token → Type 0
TokenFilled (Word w) = 0 < length w
TokenFilled (Quoted name) = 0 < length name
TokenFilled _ = Unit {0}

abbrev pub AllFilled : List Token → Type 0
AllFilled ts = AllByRecursion TokenFilled ts

pub name_filled : (ts us : List Token) (name : List ℕ) → IsName ts name us → AllFilled ts
    → (0 < length name) × AllFilled us
name_filled ts us name (names.word free call) filled = filled
name_filled ts us name names.quoted filled = filled

pub alias_filled : (ts us : List Token) (name : List ℕ) → IsAlias ts name us → AllFilled ts → 0 < length name
alias_filled ts us name (g.bare is) filled = (name_filled ts us name is filled).0
alias_filled ts us name (g.with_as is) filled = (name_filled _ us name is filled.1).0
