-- Streams that are held by the transactions that read them.
--     apart_put, apart_staged     no two sessions hold one stream where one begins, ends, or reads one that is free
--     free_of                     a stream that no other session holds
use Rattle.std.proofs.Common.{◌≡◌, ◌⊎◌, inl, inr, ℕ, zero, suc, Bool, true, false, cond, List, [], ◌∷◌, Option, Some}
use Rattle.std.proofs.Common.{None, option_map, refl, sym, ap, ◌∙◌}
use Rattle.std.specs.Prelude.{nat_eq, ◌||◌, is_some, slice_set}
use Rattle.std.specs.List.{list_any}
use Rattle.std.specs.FinMap.{get}
use Rattle.wh_effect.specs.Effect.{Effect}
use Rattle.wh_machine.specs.Offsets.{with_streams}
use Rattle.wh_machine.specs.Transaction.{Transaction, staged}
use Rattle.wh_machine.specs.Sessions.{Sessions, transaction_in, number_in, held_by, or_later, holder, with_ended}
use Rattle.wh_machine.specs.Sessions.{locked_by}
use Rattle.wh_machine.specs.Sessions.{first_locked, is_held}
use Rattle.wh_machine.specs.Consuming.{is_read_by, reads, AreApart}
use Rattle.wh_machine.proofs.MoveLaws.{same_number, among_streams}

-- who reads a stream where the transaction of a session is another one
read_put : (sessions : Sessions) (session q id : ℕ) (found : Option Transaction)
    → reads (slice_set sessions session found) q id ≡ true
    → ((q ≡ session) × (is_read_by found id ≡ true)) ⊎ (reads sessions q id ≡ true)
read_put [] session q id found is = inr is
read_put (one ∷ others) zero zero id found is = inl (refl, is)
read_put (one ∷ others) zero (suc q) id found is = inr is
read_put (one ∷ others) (suc session) zero id found is = inr is
read_put (one ∷ others) (suc session) (suc q) id found is = later (read_put others session q id found is)
  where
    later : ((q ≡ session) × (is_read_by found id ≡ true)) ⊎ (reads others q id ≡ true)
        → ((suc q ≡ suc session) × (is_read_by found id ≡ true)) ⊎ (reads others q id ≡ true)
    later (inl here) = inl (ap suc here.0, here.1)
    later (inr there) = inr there

-- a transaction that ended holds nothing
pub ended_reads : (sessions : Sessions) (session id : ℕ) → reads (with_ended sessions session) session id ≡ false
ended_reads [] session id = refl
ended_reads (one ∷ others) zero id = refl
ended_reads (one ∷ others) (suc session) id = ended_reads others session id

-- the number of who reads a stream there, where the one that is put in has the number of the one before
pub number_put : (sessions : Sessions) (session q id : ℕ) (found : Option Transaction)
    → (is_read_by found id ≡ true → option_map (λ t. t.number) found ≡ number_in sessions session)
    → reads (slice_set sessions session found) q id ≡ true
    → number_in (slice_set sessions session found) q ≡ number_in sessions q
number_put [] session q id found same is = refl
number_put (one ∷ others) zero zero id found same is = same is
number_put (one ∷ others) zero (suc q) id found same is = refl
number_put (one ∷ others) (suc session) zero id found same is = refl
number_put (one ∷ others) (suc session) (suc q) id found same is = number_put others session q id found same is

contradicts : {X : Type 0} → true ≡ false → X
contradicts is = absurd cc

-- one that reads none
pub apart_put : (sessions : Sessions) (session : ℕ) (found : Option Transaction)
    → ((id : ℕ) → is_read_by found id ≡ false) → AreApart sessions → AreApart (slice_set sessions session found)
apart_put sessions session found none apart one other id first second =
    by_both (read_put sessions session one id found first) (read_put sessions session other id found second)
  where
    by_both : ((one ≡ session) × (is_read_by found id ≡ true)) ⊎ (reads sessions one id ≡ true)
        → ((other ≡ session) × (is_read_by found id ≡ true)) ⊎ (reads sessions other id ≡ true) → one ≡ other
    by_both (inl here) second = contradicts (sym here.1 ∙ none id)
    by_both (inr there) (inl here) = contradicts (sym here.1 ∙ none id)
    by_both (inr there) (inr too) = apart one other id there too

-- ---- a stream that no other session holds

pub or_none : (first second : Option ℕ) → or_later first second ≡ None → (first ≡ None) × (second ≡ None)
or_none None second is = (refl, is)
or_none (Some n) second is = absurd cc

either_true : (a b : Bool) → b ≡ true → (a || b) ≡ true
either_true true b is = refl
either_true false b is = is

holder_reads : (found : Option Transaction) (id : ℕ) → is_read_by found id ≡ true → held_by id found ≡ None → ⊥
holder_reads None id is none = absurd cc
holder_reads (Some t) id is none =
    some_held (is_held t id) (either_true (is_some (get t.tables id)) (list_any (nat_eq id) t.streams) is) none
  where
    some_held : (held : Bool) → held ≡ true → cond held (Some t.number) None ≡ None → ⊥
    some_held true is none = absurd cc
    some_held false is none = absurd cc

pub none_reads : (sessions : Sessions) (q id : ℕ) → holder sessions id ≡ None → reads sessions q id ≡ true → ⊥
none_reads [] q id none is = absurd cc
none_reads (one ∷ others) zero id none is =
    holder_reads one id is (or_none (held_by id one) (holder others id) none).0
none_reads (one ∷ others) (suc q) id none is =
    none_reads others q id (or_none (held_by id one) (holder others id) none).1 is

free_of_one : (sessions : Sessions) (session q id : ℕ) → locked_by sessions session id ≡ None
    → reads sessions q id ≡ true → q ≡ session
free_of_one [] session q id none is = absurd cc
free_of_one (one ∷ others) zero zero id none is = refl
free_of_one (one ∷ others) zero (suc q) id none is = absurd (none_reads others q id none is)
free_of_one (one ∷ others) (suc session) zero id none is =
    absurd (holder_reads one id is (or_none (held_by id one) (holder (with_ended others session) id) none).0)
free_of_one (one ∷ others) (suc session) (suc q) id none is =
    ap suc (free_of_one others session q id
    (or_none (held_by id one) (holder (with_ended others session) id) none).1 is)

-- who holds one of some streams that are free for a session is that session
pub free_of : (sessions : Sessions) (session q id : ℕ) (ids : List ℕ) → first_locked sessions session ids ≡ None
    → list_any (nat_eq id) ids ≡ true → reads sessions q id ≡ true → q ≡ session
free_of sessions session q id [] none among is = absurd cc
free_of sessions session q id (first ∷ ids) none among is =
    by_number (nat_eq id first) refl
    (or_none (locked_by sessions session first) (first_locked sessions session ids) none)
    (λ rest more. free_of sessions session q id ids rest more is) among
  where
    by_number : (same : Bool) → nat_eq id first ≡ same
        → (locked_by sessions session first ≡ None) × (first_locked sessions session ids ≡ None)
        → (first_locked sessions session ids ≡ None → list_any (nat_eq id) ids ≡ true → q ≡ session)
        → (same || list_any (nat_eq id) ids) ≡ true → q ≡ session
    by_number true same both rest among =
        free_of_one sessions session q id (ap (locked_by sessions session) (same_number id first same) ∙ both.0) is
    by_number false same both rest among = rest both.1 among

pub one_of : (a b : Bool) → (a || b) ≡ true → (a ≡ true) ⊎ (b ≡ true)
one_of true b is = inl refl
one_of false b is = inr is

-- a transaction that reads more
pub apart_staged : (sessions : Sessions) (session target next : ℕ) (streams : List ℕ) (t : Transaction) (e : Effect)
    → transaction_in sessions session ≡ Some t → first_locked sessions session streams ≡ None → AreApart sessions
    → AreApart (slice_set sessions session (Some (staged t target streams next e)))
unfolding staged
apart_staged sessions session target next streams t e begun free apart one other id first second =
    by_both (read_put sessions session one id _ first) (read_put sessions session other id _ second)
  where
    -- whoever held it before is this session
    by_part : (q : ℕ) → reads sessions q id ≡ true
        → (list_any (nat_eq id) streams ≡ true) ⊎ (list_any (nat_eq id) t.streams ≡ true) → q ≡ session
    by_part q is (inl among) = free_of sessions session q id streams free among is
    by_part q is (inr before) =
        apart q session id is (ap (λ (found : Option Transaction). is_read_by found id) begun ∙ before)

    mine : (q : ℕ) → reads sessions q id ≡ true → list_any (nat_eq id) (with_streams streams t.streams) ≡ true
        → q ≡ session
    mine q is among =
        by_part q is (one_of (list_any (nat_eq id) streams) (list_any (nat_eq id) t.streams)
        (sym (among_streams id streams t.streams) ∙ among))

    by_both : ((one ≡ session) × (list_any (nat_eq id) (with_streams streams t.streams) ≡ true))
        ⊎ (reads sessions one id ≡ true)
        → ((other ≡ session) × (list_any (nat_eq id) (with_streams streams t.streams) ≡ true))
        ⊎ (reads sessions other id ≡ true) → one ≡ other
    by_both (inl here) (inl too) = here.0 ∙ sym too.0
    by_both (inl here) (inr there) = here.0 ∙ sym (mine other there here.1)
    by_both (inr there) (inl here) = mine one there here.1 ∙ sym here.0
    by_both (inr there) (inr too) = apart one other id there too
