-- One turn more of a list.
use Rattle.std.proofs.Common.{◌≡◌, ℕ, suc, true, List, [], ◌∷◌, ◌++◌, Some, refl}
use Rattle.std.specs.Prelude.{codes}
use Rattle.wh_ast.specs.declared.query.Query.{Query}
use Rattle.wh_ast.specs.declared.query.Core.{Core}
use Rattle.wh_ast.specs.declared.query.Join.{Join}
use Rattle.wh_grammar.specs.Token.{Token}
use Rattle.wh_cursor.specs.Steps.{tail, Reader, sees_word, expect_word}
use Rattle.wh_query_parse.specs.Read.{sees_join, read_join, joins_from, read_core, cores_from}

pub one_join : (inner : Reader Query) (d n : ℕ) (found : List Join) (ts us : List Token) (x : Join)
    → sees_join ts ≡ true → read_join inner d ts ≡ Some (x, us)
    → joins_from inner d (suc n) found ts ≡ joins_from inner d n (found ++ x ∷ []) us
unfolding joins_from
one_join inner d n found ts us x seen read = rw (seen, read) refl

pub one_core : (inner : Reader Query) (d n : ℕ) (found : List Core) (ts us vs : List Token) (x : Core)
    → read_core inner d ts ≡ Some (x, us) → sees_word (codes "UNION") us ≡ true
    → expect_word (codes "ALL") (tail us) ≡ Some (tt, vs)
    → cores_from inner d (suc n) found ts ≡ cores_from inner d n (found ++ x ∷ []) vs
unfolding cores_from
one_core inner d n found ts us vs x read union all = rw (read, union, all) refl
