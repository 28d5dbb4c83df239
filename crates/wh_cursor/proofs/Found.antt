-- From what a call read to what stands there.
use Rattle.std.proofs.Common.{◌≡◌, Option, Some, Result, Ok, Err, sym, ◌∙◌}
use Rattle.std.specs.Prelude.{◌↔◌, IfOk, IsErrOf}
use Rattle.wh_cursor.specs.declared.fault.ParseFault.{ParseFault}
use Rattle.wh_cursor.specs.declared.fault.ParseFault.TheVariants as faults
use Rattle.wh_cursor.specs.Gives.{Reads}

pub found : {S A : Type 0} (P : A → S → Type 0) (read : Option (A × S))
    → ((x : A) (us : S) → read ≡ Some (x, us) → P x us) → (r : Result A ParseFault) (us : S) → Reads read r us
    → IfOk r (λ x. P x us)
found P read sound (Ok x) us h = sound x us h
found P read sound (Err fault) us h = tt

pub none : {S A : Type 0} (P : A → S → Type 0) (read : Option (A × S))
    → ((x : A) (us : S) → P x us → read ≡ Some (x, us)) → (r : Result A ParseFault) (us : S) → Reads read r us
    → IsErrOf r faults.SyntaxError → (x : A) (vs : S) → P x vs
    → ⊥
none P read complete (Ok x) us h failed y vs p = absurd (cc)
none P read complete (Err faults.SyntaxError) us h failed y vs p = let k = sym h ∙ complete y vs p in cc
none P read complete (Err faults.OutOfMemory) us h failed y vs p = cc

-- where what is read is what stands there
pub found_by : {S A : Type 0} {P : A → S → Type 0} {read : Option (A × S)}
    → ((x : A) (us : S) → (read ≡ Some (x, us)) ↔ P x us) → (r : Result A ParseFault) (us : S) → Reads read r us
    → IfOk r (λ x. P x us)
found_by {P = P} {read = read} law r us reads = found P read (λ x vs. (law x vs).0) r us reads

pub none_by : {S A : Type 0} {P : A → S → Type 0} {read : Option (A × S)}
    → ((x : A) (us : S) → (read ≡ Some (x, us)) ↔ P x us) → (r : Result A ParseFault) (us : S) → Reads read r us
    → IsErrOf r faults.SyntaxError → (x : A) (vs : S) → P x vs → ⊥
none_by {P = P} {read = read} law r us reads = none P read (λ x vs. (law x vs).1) r us reads
