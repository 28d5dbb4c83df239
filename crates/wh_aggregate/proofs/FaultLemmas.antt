-- Faults that are passed on.
--     still          a fault of a part is one of the whole
--     passed_on      a fault that a call hands on as it is
--     stopped        both
use Rattle.std.specs.Prelude.{◌≡◌, Option, None, Result, Ok, Err}
use Rattle.std.proofs.Common.{sym, subst}
use Rattle.std.specs.Result.{IsErrAnd}
use Rattle.wh_scalar.specs.declared.fault.EvalFault.{EvalFault}
use Rattle.wh_scalar.specs.declared.fault.EvalFault.TheVariants.{NumberOutOfRange, OutOfMemory}
use Rattle.wh_aggregate.specs.Given.{IsFaultOf, Leaves}

-- the whole has nothing without the part
pub still : {A B : Type 0} (fault : EvalFault) (part : Option A) (whole : Option B) → (part ≡ None → whole ≡ None)
    → IsFaultOf fault part → IsFaultOf fault whole
still NumberOutOfRange part whole stops is = stops is
still OutOfMemory part whole stops is = tt

pub passed_on : {T : Type 0} (r : Result T EvalFault) (fault : EvalFault) (P : Result T EvalFault → Type 0)
    → IsErrAnd r (λ f. f ≡ fault) → P (Err fault) → P r
passed_on (Ok x) fault P gives is = absurd gives
passed_on (Err f) fault P gives is = subst (λ e. P (Err e)) (sym gives) is

pub stopped : {A B C : Type 0} (r : Result B EvalFault) (fault : EvalFault) (part : Option A) (state : C)
    (whole : Option C)
    → IsErrAnd r (λ f. f ≡ fault) → (part ≡ None → whole ≡ None) → IsFaultOf fault part → Leaves r state whole
stopped r fault part state whole gives stops is =
    passed_on r fault (λ x. Leaves x state whole) gives (still fault part whole stops is)
