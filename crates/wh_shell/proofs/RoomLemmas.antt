-- The room that a run needs, and the reach behind its events.
--     reach_one, machine_reached, made_more     one event behind others
--     room_behind, fits_behind                  behind a commit that there is room for
--     first_lacks, none_fits, past_limit        a commit that there is no room for
use Rattle.std.proofs.Common.{◌≡◌, ℕ, ◌+◌, ◌<◌, List, [], ◌∷◌, ◌++◌, Option, Some, None, refl, sym, ap, ◌∙◌, arith}
use Rattle.std.proofs.Common.{append_assoc, append-nil}
use Rattle.std.specs.Prelude.{true, false}
use Rattle.std.specs.Option.{option_to_list}
use Rattle.std.proofs.lemmas.Bool.Decides.{nat_tests}
use Rattle.wh_state.specs.Commit.{Commit}
use Rattle.wh_state.specs.Written.{is_beyond, added_length}
use Rattle.wh_machine.specs.Step.{Event, after}
use Rattle.wh_shell.specs.Room.{Reach, made_at, reach_after, all_made_at, reach_after_all, first_beyond, fitting_at}

-- ---- one event behind others

pub reach_one : (r : Reach) (done : List Event) (event : Event) →
    reach_after_all r (done ++ event ∷ []) ≡ reach_after (reach_after_all r done) event
reach_one r [] event = refl
reach_one r (e ∷ es) event = reach_one (reach_after r e) es event

-- the machine that events lead to
pub machine_reached : (r : Reach) (es : List Event) → (reach_after_all r es).machine ≡ after r.machine es
machine_reached r [] = refl
machine_reached r (e ∷ es) = machine_reached (reach_after r e) es

pub made_more : (r : Reach) (done : List Event) (event : Event) →
    all_made_at r (done ++ event ∷ [])
    ≡ all_made_at r done ++ option_to_list (made_at (reach_after_all r done) event)
made_more r [] event = append-nil (option_to_list (made_at r event))
made_more r (e ∷ es) event =
    let next : Reach = reach_after r e in
    let first : List Commit = option_to_list (made_at r e) in
    ap (λ (cs : List Commit). first ++ cs) (made_more next es event)
    ∙ sym (append_assoc first (all_made_at next es) (option_to_list (made_at (reach_after_all next es) event)))

-- ---- room

-- behind a commit that had room
pub room_behind : (limit : ℕ) (event : Event) (old new : Reach) (es : List Event) →
    is_beyond limit old.end (made_at old event) ≡ false → new ≡ reach_after old event →
    first_beyond limit old (event ∷ es) ≡ first_beyond limit new es
room_behind limit event old new es within grows =
    rw within (ap (λ (r : Reach). first_beyond limit r es) (sym grows))

pub fits_behind : (limit : ℕ) (event : Event) (old new : Reach) (es : List Event) →
    is_beyond limit old.end (made_at old event) ≡ false → new ≡ reach_after old event →
    fitting_at limit old (event ∷ es) ≡ event ∷ fitting_at limit new es
fits_behind limit event old new es within grows =
    rw within (ap (λ (r : Reach). event ∷ fitting_at limit r es) (sym grows))

-- a commit that is too long passes the limit
pub past_limit : (limit end : ℕ) (commit : Option Commit) → is_beyond limit end commit ≡ true →
    limit < end + added_length commit
past_limit limit end None beyond = cc
past_limit limit end (Some c) beyond = grind (arith, nat_tests)

-- it is the first one
pub first_lacks : (limit : ℕ) (event : Event) (old : Reach) (es : List Event) →
    is_beyond limit old.end (made_at old event) ≡ true →
    first_beyond limit old (event ∷ es) ≡ Some (old.end, added_length (made_at old event))
first_lacks limit event old es beyond = rw beyond

-- and no event is before it
pub none_fits : (limit : ℕ) (event : Event) (old : Reach) (es : List Event) →
    is_beyond limit old.end (made_at old event) ≡ true →
    fitting_at limit old (event ∷ es) ≡ []
none_fits limit event old es beyond = rw beyond
