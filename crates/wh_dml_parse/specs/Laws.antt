-- What holds of statements that change rows, and of names with commas between them.
--     ReadsDml          read_dml gives the statement that the tokens are, exactly where they are one
--     ReadsNames        read_names gives the names that the tokens begin with, exactly where no comma follows them
--     TokensFixDml      no tokens are two statements
--     NamesFrame        names stand as well before any other tokens that don't begin with a `(`
use Rattle.std.specs.Prelude.{◌≡◌, ◌↔◌, ℕ, false, List, ◌++◌, Some}
use Rattle.wh_ast.specs.declared.dml.Dml.{Dml}
use Rattle.wh_grammar.specs.Token.{Token}
use Rattle.wh_grammar.specs.Name.{opens}
use Rattle.wh_grammar.specs.Changing.{AreNames}
use Rattle.wh_dml_parse.specs.Follow.{IsDmlAt, AreNamesAt}
use Rattle.wh_dml_parse.specs.Read.{read_dml, read_names}

abbrev pub ReadsDml : Type 0
ReadsDml = (d : ℕ) (ts : List Token) (x : Dml) (us : List Token) → (read_dml d ts ≡ Some (x, us)) ↔ IsDmlAt d ts x us

abbrev pub ReadsNames : Type 0
ReadsNames = (ts : List Token) (names : List (List ℕ)) (us : List Token)
    → (read_names ts ≡ Some (names, us)) ↔ AreNamesAt ts names us

abbrev pub TokensFixDml : Type 0
TokensFixDml = (d : ℕ) (ts : List Token) (x y : Dml) (us vs : List Token) → IsDmlAt d ts x us
    → IsDmlAt d ts y vs → (x ≡ y) × (us ≡ vs)

-- the front of the tokens that the names are
pub record NamesFront (ts : List Token) (names : List (List ℕ)) (us : List Token) : Type 0 where
  pub front : List Token
  pub is : ts ≡ front ++ us
  pub stands : (vs : List Token) → opens vs ≡ false → AreNames (front ++ vs) names vs

abbrev pub NamesFrame : Type 0
NamesFrame = (ts : List Token) (names : List (List ℕ)) (us : List Token) → AreNames ts names us → NamesFront ts names us
