-- What a text fixes.
--     TextFixesTokens     its tokens
--     ReadsTokens         read_tokens gives them, exactly where there are some
use Rattle.std.specs.Prelude.{◌≡◌, ◌↔◌, ℕ, List, Some}
use Rattle.wh_grammar.specs.Token.{Placed}
use Rattle.wh_grammar.specs.Lexing.{HasTokens}
use Rattle.wh_lex.specs.Read.{read_tokens}

-- no text has two lists of tokens
abbrev pub TextFixesTokens : Type 0
TextFixesTokens = (bytes : List ℕ) (ts us : List Placed) → HasTokens bytes ts → HasTokens bytes us → ts ≡ us

abbrev pub ReadsTokens : Type 0
ReadsTokens = (bytes : List ℕ) (ts : List Placed) → (read_tokens bytes ≡ Some ts) ↔ HasTokens bytes ts
