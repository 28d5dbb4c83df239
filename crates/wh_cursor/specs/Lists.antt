-- One or more of something.
--     some_from     behind each it is asked whether one more follows
--     listed        with commas between them
--     ReadsItem     a function value takes what a reader takes
use Rattle.std.specs.Prelude.{ℕ, zero, suc, Bool, if◌then◌else◌, List, [], ◌∷◌, ◌++◌, Result, length}
use Rattle.std.specs.declared.alloc.Global.{Global}
use denote.Ref.{MutBor}
use Rattle.wh_grammar.specs.Token.{Token}
use Rattle.wh_cursor.specs.declared.fault.ParseFault.{ParseFault}
use Rattle.wh_cursor.specs.declared.key.TokenClass.TheVariants as k
use Rattle.wh_cursor.specs.Gives.{Reads}
use Rattle.wh_cursor.specs.Steps.{Reader, ◌>>=◌, pure, refuse, eat_key}

-- behind those found; the number bounds how many more, and each takes a token
unfoldable pub some_from : {A : Type 0} → Reader A → Reader Bool → ℕ → List A → Reader (List A)
some_from item again zero found = refuse
some_from item again (suc n) found = do
  x ← item
  more ← again
  if more then some_from item again n (found ++ x ∷ []) else pure (found ++ x ∷ [])

abbrev pub listed : {A : Type 0} → Reader A → Reader (List A)
listed item = λ ts. some_from item (eat_key k.Comma) (length ts) [] ts

pub record ReadsItem {T : Type 0} (item : Reader T) (depth : ℕ)
    (post : Global → MutBor (List Token) → ℕ → Result T ParseFault → MutBor (List Token) → Type 0) : Type 0 where
  pub reads : (alloc : Global) (old new : MutBor (List Token)) (r : Result T ParseFault) → post alloc old depth r new
      → Reads (item old.now) r new.now
