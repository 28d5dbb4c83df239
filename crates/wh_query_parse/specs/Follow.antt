-- What may stand behind a query and its parts, so that no tokens begin with two of them.
--     ends_query                         nothing, a `)`, or ORDER
--     ends_alias                         neither AS nor a name
--     ends_filter                        neither WHERE nor what goes on with an expression
--     IsQueryAt, IsSourceAt, IsAliasAt, IsFilterAt     the part, with that behind it
use Rattle.std.specs.Prelude.{◌≡◌, ℕ, Bool, true, false, not, ◌&&◌, ◌==◌, List, [], ◌∷◌, Option, codes, bytes_eq}
use Rattle.wh_ast.specs.declared.expr.Expr.{Expr}
use Rattle.wh_ast.specs.declared.query.Query.{Query}
use Rattle.wh_ast.specs.declared.query.FromItem.{FromItem}
use Rattle.wh_grammar.specs.Words.{is_reserved}
use Rattle.wh_grammar.specs.Token.{Token, Word, Quoted, TextToken, NumberToken, SignToken, Sign, RParen}
use Rattle.wh_cursor.specs.Binds.{binds}
use Rattle.wh_grammar.specs.Query.{MayHaveAlias, MayHaveFilter, IsQuery, IsSource}
use Rattle.wh_cursor.specs.declared.key.TokenClass.{TokenClass}
use Rattle.wh_cursor.specs.declared.key.TokenClass.TheVariants as k
use Rattle.wh_cursor.specs.Steps.{sees_word}

abbrev pub closes : Sign → Bool
closes RParen = true
closes _ = false

abbrev pub ends_query : List Token → Bool
ends_query [] = true
ends_query (Word w ∷ us) = bytes_eq w (codes "ORDER")
ends_query (Quoted name ∷ us) = false
ends_query (TextToken bytes ∷ us) = false
ends_query (NumberToken n ∷ us) = false
ends_query (SignToken s ∷ us) = closes s

abbrev pub ends_alias : List Token → Bool
ends_alias [] = true
ends_alias (Word w ∷ us) = is_reserved w && not (bytes_eq w (codes "AS"))
ends_alias (Quoted name ∷ us) = false
ends_alias (TextToken bytes ∷ us) = true
ends_alias (NumberToken n ∷ us) = true
ends_alias (SignToken s ∷ us) = true

-- what the code asks of the next token: whether it is a name's, by its key
abbrev pub names_key : TokenClass → Bool
names_key k.Name = true
names_key k.Sum = true
names_key k.Count = true
names_key _ = false

abbrev pub ends_filter : List Token → Bool
ends_filter us = (binds us == 0) && not (sees_word (codes "WHERE") us)

pub record IsQueryAt (d : ℕ) (ts : List Token) (q : Query) (us : List Token) : Type 0 where
  pub query : IsQuery d ts q us
  pub ends : ends_query us ≡ true

pub record IsSourceAt (d : ℕ) (ts : List Token) (x : FromItem) (us : List Token) : Type 0 where
  pub source : IsSource d ts x us
  pub ends : ends_alias us ≡ true

pub record IsAliasAt (ts : List Token) (x : Option (List ℕ)) (us : List Token) : Type 0 where
  pub alias : MayHaveAlias ts x us
  pub ends : ends_alias us ≡ true

pub record IsFilterAt (d : ℕ) (ts : List Token) (x : Option Expr) (us : List Token) : Type 0 where
  pub filter : MayHaveFilter d ts x us
  pub ends : ends_filter us ≡ true
