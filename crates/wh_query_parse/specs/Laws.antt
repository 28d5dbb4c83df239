-- What holds of queries and their parts among tokens.
--     ReadsQueries, ReadsSources,        each reading function gives the part that the tokens begin with, exactly where
--     ReadsAliases, ReadsFilters         they begin with one
--     TokensFixQuery                     no tokens begin with two queries
--     QueryIsFront, SourceIsFront        a part is a front of the tokens, and not empty
use Rattle.std.specs.Prelude.{◌≡◌, ◌↔◌, ℕ, ◌<◌, List, Option, Some, length}
use Rattle.wh_ast.specs.declared.expr.Expr.{Expr}
use Rattle.wh_ast.specs.declared.query.Query.{Query}
use Rattle.wh_ast.specs.declared.query.FromItem.{FromItem}
use Rattle.wh_grammar.specs.Token.{Token}
use Rattle.wh_grammar.specs.Query.{IsQuery, IsSource}
use Rattle.wh_query_parse.specs.Follow.{IsQueryAt, IsSourceAt, IsAliasAt, IsFilterAt}
use Rattle.wh_query_parse.specs.Read.{read_query, read_source, read_alias, read_filter}

abbrev pub ReadsQueries : Type 0
ReadsQueries = (d : ℕ) (ts : List Token) (q : Query) (us : List Token)
    → (read_query d ts ≡ Some (q, us)) ↔ IsQueryAt d ts q us

abbrev pub ReadsSources : Type 0
ReadsSources = (d : ℕ) (ts : List Token) (x : FromItem) (us : List Token)
    → (read_source d ts ≡ Some (x, us)) ↔ IsSourceAt d ts x us

abbrev pub ReadsAliases : Type 0
ReadsAliases = (ts : List Token) (x : Option (List ℕ)) (us : List Token)
    → (read_alias ts ≡ Some (x, us)) ↔ IsAliasAt ts x us

abbrev pub ReadsFilters : Type 0
ReadsFilters = (d : ℕ) (ts : List Token) (x : Option Expr) (us : List Token)
    → (read_filter d ts ≡ Some (x, us)) ↔ IsFilterAt d ts x us

abbrev pub TokensFixQuery : Type 0
TokensFixQuery = (d : ℕ) (ts : List Token) (q r : Query) (us vs : List Token) → IsQueryAt d ts q us
    → IsQueryAt d ts r vs → (q ≡ r) × (us ≡ vs)

abbrev pub QueryIsFront : Type 0
QueryIsFront = (d : ℕ) (ts : List Token) (q : Query) (us : List Token) → IsQuery d ts q us → length us < length ts

abbrev pub SourceIsFront : Type 0
SourceIsFront = (d : ℕ) (ts : List Token) (x : FromItem) (us : List Token) → IsSource d ts x us → length us < length ts
