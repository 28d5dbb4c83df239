-- What is asked of a fetch, call by call.
--     asks_none      no call asks for nothing
--     asks_on        one after the other
--     asks_one       for one partition
--     asks_as        what else holds where this holds
--     asks_each      what holds of each of those that were asked for
--     one_of         one of those that references point to
--     times_both     how often a name stands on two lists
--     none_among     no call asks for nothing
--     among_on       one after the other
--     among_one      for one partition
--     among_more     for more than that
--     among_first    for those at the front of others
--     among_next     for those at the front of a list, and the next of it
--     among_all      for no more than all of them
use Rattle.std.proofs.Common.{◌≡◌, inl, inr, ℕ, ◌+◌, ◌≤◌, zero, suc, ◌<◌, List, [], ◌∷◌, ◌++◌, length, take, drop, Result, Ok, Err}
use Rattle.std.proofs.Common.{cond, refl, sym, ap, subst, ◌∙◌, append_assoc, get_or, Contains, arith}
use Rattle.std.proofs.lemmas.List.{append-nil, take-append-drop}
use Rattle.std.specs.List.{AllByRecursion}
use Rattle.std.proofs.lemmas.List.Sums.{sum_by-append}
use denote.Ref.{Bor}
use Rattle.wh_part.specs.declared.meta.PartId.{PartId}
use Rattle.wh_fetch.specs.declared.fault.FetchFault.{FetchFault}
use Rattle.wh_fetch.specs.declared.fault.FetchFault.TheVariants.{Read, OutOfMemory}
use Rattle.wh_fetch.specs.Fetch.{Asks}
use Rattle.wh_filed.specs.Filed.{Filed, filed_at}
use Rattle.wh_filed.specs.Asking.{id_of, names_at, IsNameOf, AsksFor, is_name, times, AsksAmong}
use Rattle.wh_filed.proofs.FilingLaws.{each_at}

pub asks_none : (Holds : Filed → Type 0) (names : List PartId) → AsksFor Holds names names
asks_none Holds names = record { more = []; behind = sym (append-nil names); named = tt }

both : (P : PartId → Type 0) (xs ys : List PartId) → AllByRecursion P xs → AllByRecursion P ys
    → AllByRecursion P (xs ++ ys)
both P [] ys first second = second
both P (x ∷ xs) ys first second = (first.0, both P xs ys first.1 second)

pub asks_on : (Holds : Filed → Type 0) (first then last : List PartId) → AsksFor Holds first then
    → AsksFor Holds then last
    → AsksFor Holds first last
asks_on Holds first then last one two = record {
  more = one.more ++ two.more;
  behind = two.behind ∙ ap (λ l. l ++ two.more) one.behind ∙ append_assoc first one.more two.more;
  named = both (IsNameOf Holds) one.more two.more one.named two.named;
}

pub asks_one : {X : Type 0} (Holds : Filed → Type 0) (f : Filed) (result : Result X FetchFault)
    (before after : List PartId)
    → Holds f
    → Asks result (id_of f) before after
    → AsksFor Holds before after
asks_one Holds f (Ok found) before after holds asks =
    record { more = id_of f ∷ []; behind = asks; named = ((f, holds, refl), tt) }
asks_one Holds f (Err Read) before after holds asks =
    record { more = id_of f ∷ []; behind = asks; named = ((f, holds, refl), tt) }
asks_one Holds f (Err OutOfMemory) before after holds (inl asks) =
    record { more = id_of f ∷ []; behind = asks; named = ((f, holds, refl), tt) }
asks_one Holds f (Err OutOfMemory) before after holds (inr same) =
    subst (λ l. AsksFor Holds before l) (sym same) (asks_none Holds before)

pub asks_as : (Holds Other : Filed → Type 0) (before after : List PartId) → ((f : Filed) → Holds f → Other f)
    → AsksFor Holds before after
    → AsksFor Other before after
asks_as Holds Other before after so asks =
    record { more = asks.more; behind = asks.behind; named = each asks.more asks.named }
  where
    each : (ids : List PartId) → AllByRecursion (IsNameOf Holds) ids → AllByRecursion (IsNameOf Other) ids
    each [] named = tt
    each (id ∷ ids) named = ((named.0.0, so named.0.0 named.0.1, named.0.2), each ids named.1)

pub asks_each : (Holds : Filed → Type 0) (filed : List Filed) (before after : List PartId)
    → AllByRecursion Holds filed
    → AsksFor (Contains filed) before after
    → AsksFor Holds before after
asks_each Holds filed before after each asks =
    asks_as (Contains filed) Holds before after
    (λ f held. subst Holds held.2 (each_at Holds filed held.0 f each held.1)) asks

pub one_of : (fs : List (Bor Filed)) (i : ℕ) (f : Bor Filed) → i < length fs → f ≡ get_or fs i f
    → Contains (filed_at fs) f.now
one_of [] i f within at = absurd (omega (arith, within))
one_of (x ∷ xs) zero f within at = (0, omega arith, ap (λ (y : Bor Filed). y.now) (sym at))
one_of (x ∷ xs) (suc i) f within at =
    let rest = one_of xs i f (omega (arith, within)) at in
    (suc rest.0, omega (arith, rest.1), rest.2)

pub times_both : (id : PartId) (xs ys : List PartId) → times id (xs ++ ys) ≡ times id xs + times id ys
times_both id xs ys = sum_by-append (λ other. cond (is_name id other) 1 0) xs ys

pub none_among : (names before : List PartId) → AsksAmong names before before
none_among names before =
    record { more = []; behind = sym (append-nil before); among = λ id. omega arith }

pub among_on : (first then : List PartId) (before between after : List PartId)
    → AsksAmong first before between
    → AsksAmong then between after
    → AsksAmong (first ++ then) before after
among_on first then before between after one two = record {
  more = one.more ++ two.more;
  behind = two.behind ∙ ap (λ l. l ++ two.more) one.behind ∙ append_assoc before one.more two.more;
  among = λ id. omega (
    arith,
    times_both id one.more two.more,
    times_both id first then,
    one.among id,
    two.among id,
  );
}

pub among_more : (names wider : List PartId) (before after : List PartId)
    → ((id : PartId) → times id names ≤ times id wider)
    → AsksAmong names before after
    → AsksAmong wider before after
among_more names wider before after more asks =
    record { more = asks.more; behind = asks.behind; among = λ id. omega (arith, asks.among id, more id) }

pub among_one : {X : Type 0} (id : PartId) (result : Result X FetchFault) (before after : List PartId)
    → Asks result id before after
    → AsksAmong (id ∷ []) before after
among_one id (Ok found) before after asks = record { more = id ∷ []; behind = asks; among = λ other. omega arith }
among_one id (Err Read) before after asks = record { more = id ∷ []; behind = asks; among = λ other. omega arith }
among_one id (Err OutOfMemory) before after (inl asks) =
    record { more = id ∷ []; behind = asks; among = λ other. omega arith }
among_one id (Err OutOfMemory) before after (inr same) =
    subst (λ l. AsksAmong (id ∷ []) before l) (sym same) (none_among (id ∷ []) before)

pub among_first : (first then before after : List PartId)
    → AsksAmong first before after
    → AsksAmong (first ++ then) before after
among_first first then before after asks =
    among_more first (first ++ then) before after (λ id. omega (arith, times_both id first then)) asks

taken_next : (fs : List (Bor Filed)) (i : ℕ) (f : Bor Filed) → i < length fs → f ≡ get_or fs i f
    → take (suc i) (names_at fs) ≡ take i (names_at fs) ++ id_of f.now ∷ []
taken_next [] i f within at = absurd (omega (arith, within))
taken_next (x ∷ xs) zero f within at = ap (λ (y : Bor Filed). id_of y.now ∷ []) (sym at)
taken_next (x ∷ xs) (suc i) f within at =
    ap (λ names. id_of x.now ∷ names) (taken_next xs i f (omega (arith, within)) at)

pub among_next : (fs : List (Bor Filed)) (i : ℕ) (f : Bor Filed) → i < length fs → f ≡ get_or fs i f
    → (before between after : List PartId)
    → AsksAmong (take i (names_at fs)) before between
    → AsksAmong (id_of f.now ∷ []) between after
    → AsksAmong (take (i + 1) (names_at fs)) before after
among_next fs i f within at before between after one two =
    let more : i + 1 ≡ suc i = omega arith in
    subst (λ names. AsksAmong names before after)
    (sym (ap (λ n. take n (names_at fs)) more ∙ taken_next fs i f within at))
    (among_on (take i (names_at fs)) (id_of f.now ∷ []) before between after one two)

pub among_all : (i : ℕ) (names before after : List PartId)
    → AsksAmong (take i names) before after
    → AsksAmong names before after
among_all i names before after asks =
    among_more (take i names) names before after (λ id. omega (
      arith,
      times_both id (take i names) (drop i names),
      ap (times id) (take-append-drop i names),
    )) asks
