-- Faults that are passed on.
--     on_ok, on_err     what holds where a call succeeds, and where it fails
--     not_full          want of memory isn't a count that is too great
--     passed_on         a fault that a call hands on as it is
--     sum_full          a count that is too great in a sum
use Rattle.std.specs.Prelude.{◌≡◌, Result, Ok, Err, OnOk, OnErr}
use Rattle.std.proofs.Common.{refl}
use Rattle.std.specs.Result.{IsErrAnd}
use Rattle.wh_bag.specs.declared.fault.AddFault.{AddFault}
use Rattle.wh_bag.specs.declared.fault.AddFault.TheVariants.{TooMany, OutOfMemory}
use Rattle.wh_bag.specs.declared.fault.ApplyFault.{ApplyFault}
use Rattle.wh_bag.specs.declared.fault.ApplyFault.TheVariants as apply
use Rattle.wh_bag.specs.Faults.{fault_of_add}

pub on_ok : {A E P Q : Type 0} (r : Result A E) → (P → Q) → OnOk r P → OnOk r Q
on_ok (Ok x) f h = f h
on_ok (Err e) f h = tt

pub on_err : {A E P Q : Type 0} (r : Result A E) → (P → Q) → OnErr r P → OnErr r Q
on_err (Ok x) f h = tt
on_err (Err e) f h = f h

pub not_full : {A : Type 0} (r : Result A AddFault) → IsErrAnd r (λ f. f ≡ OutOfMemory) → r ≡ Err TooMany → ⊥
not_full (Ok x) is e = is
not_full (Err f) is e = cc

pub passed_on : {A E : Type 0} (r : Result A E) (f t : E) → IsErrAnd r (λ g. g ≡ f) → r ≡ Err t → f ≡ t
passed_on (Ok x) f t is e = absurd is
passed_on (Err g) f t is e = cc

pub sum_full : {A : Type 0} (r : Result A ApplyFault) (f : AddFault) → IsErrAnd r (λ g. g ≡ fault_of_add f)
    → r ≡ Err apply.TooMany → f ≡ TooMany
sum_full (Ok x) f is e = absurd is
sum_full (Err g) TooMany is e = refl
sum_full (Err g) OutOfMemory is e = cc
