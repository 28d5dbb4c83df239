-- Operands of one level with operators between them, grouped to the left.
--     Links       what takes an operator, if one comes next, what takes an operand, and what both make
--     joined      behind a first operand, as long as an operator comes next
--     chain       an operand, and what is joined to it
--     ReadsBy     a function value takes what a reader takes
--     ReadsLinks  three function values take and make these
use Rattle.std.specs.Prelude.{◌≡◌, ℕ, zero, suc, Option, Some, None, Result}
use denote.Ref.{MutBor}
use Rattle.wh_cursor.specs.declared.fault.ParseFault.{ParseFault}
use Rattle.wh_cursor.specs.Gives.{Reads}
use Rattle.wh_cursor.specs.Steps.{ReaderOf, ◌>>=◌, pure}

pub record Links (S A O : Type 0) : Type 0 where
  pub operator : ReaderOf S (Option O)
  pub operand : ReaderOf S A
  pub make : O → A → A → A

-- behind an operator, if one was found
abbrev pub behind : {S A O : Type 0} → Links S A O → (A → ReaderOf S A) → A → Option O → ReaderOf S A
behind links more x None = pure x
behind links more x (Some op) = do
  y ← links.operand
  more (links.make op x y)

-- the number bounds the operators
unfoldable pub joined : {S A O : Type 0} → Links S A O → ℕ → A → ReaderOf S A
joined links zero x = pure x
joined links (suc n) x = do
  found ← links.operator
  behind links (joined links n) x found

abbrev pub chain : {S A O : Type 0} → Links S A O → (S → ℕ) → ReaderOf S A
chain links most = do
  x ← links.operand
  λ s. joined links (most s) x s

pub record ReadsBy {S A : Type 0} (reader : ReaderOf S A)
    (post : MutBor S → Result A ParseFault → MutBor S → Type 0) : Type 0 where
  pub reads : (old new : MutBor S) (r : Result A ParseFault) → post old r new → Reads (reader old.now) r new.now

pub record ReadsLinks {S A O : Type 0} (links : Links S A O)
    (operator_post : MutBor S → Result (Option O) ParseFault → MutBor S → Type 0)
    (operand_post : MutBor S → Result A ParseFault → MutBor S → Type 0)
    (join_post : O → A → A → A → Type 0) : Type 0 where
  pub operator : ReadsBy links.operator operator_post
  pub operand : ReadsBy links.operand operand_post
  pub make : (op : O) (x y z : A) → join_post op x y z → z ≡ links.make op x y
