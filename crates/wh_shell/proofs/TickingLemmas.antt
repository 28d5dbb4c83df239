-- Readings that are taken of a clock.
--     takes_none, takes_more                       none, and some behind others
--     taken_end, taken_one                         a turn that found no event, and one that carried one out
--     taken_unread, taken_halted, taken_passed     a turn that was stopped
--     taken_not_yet, taken_on                      the turns so far
--     taken_all, taken_stop                        how they end
--     taken_never, ticks_take_none                 a run that reads no event, and one by the ticks
use Rattle.std.proofs.Common.{◌≡◌, ℕ, zero, suc, ◌+◌, Bool, false, List, [], length, Option, Some, None}
use Rattle.std.proofs.Common.{refl, ap, ◌∙◌, option_map, arith}
use Rattle.std.specs.Prelude.{Result, Ok, Err, IsErrAnd}
use Rattle.wh_machine.specs.Step.{Event}
use Rattle.wh_world.specs.Readings.{readings_after}
use Rattle.wh_world.specs.declared.clock.Clock.{Ghosts}
use Rattle.wh_shell.specs.Reading.{GivesEvent, EndsEvents}
use Rattle.wh_shell.specs.Ticking.{readings_behind, Takes, TakesOf, TakesAtMost, TakesTurn}
use Rattle.wh_shell.specs.Ticking.{TakesSoFar, TakesFor}
use Rattle.wh_shell.specs.declared.fault.Fault.{Fault}
use Rattle.wh_shell.specs.declared.status.Status.{Status}
use Rattle.wh_shell.specs.declared.status.Status.TheVariants.{Read, Stopped}

none_behind : (rs : Option (List ℕ)) → rs ≡ option_map (readings_behind 0) rs
none_behind None = refl
none_behind (Some rs) = refl

behind_behind : (n m : ℕ) (rs : List ℕ) → readings_behind m (readings_behind n rs) ≡ readings_behind (n + m) rs
behind_behind zero m rs =
    let same : m ≡ 0 + m = omega arith in
    ap (λ (i : ℕ). readings_behind i rs) same
behind_behind (suc n) m rs =
    let same : suc (n + m) ≡ suc n + m = omega arith in
    behind_behind n m (readings_after rs) ∙ ap (λ (i : ℕ). readings_behind i rs) same

both_behind : (n m : ℕ) (rs : Option (List ℕ)) →
    option_map (readings_behind m) (option_map (readings_behind n) rs) ≡ option_map (readings_behind (n + m)) rs
both_behind n m None = refl
both_behind n m (Some rs) = ap Some (behind_behind n m rs)

module _ {C : Type 0} (c : Ghosts C) (system : Bool) where
  pub takes_none : (old new : C) → new ≡ old → Takes c system 0 old new
  takes_none old new same = record {
    untouched = λ ticks. same;
    taken = λ asked. ap c.readings same ∙ none_behind (c.readings old);
  }

  pub takes_more : (n m : ℕ) (first old new : C) → Takes c system n first old → Takes c system m old new →
      Takes c system (n + m) first new
  takes_more n m first old new one two = record {
    untouched = λ ticks. two.untouched ticks ∙ one.untouched ticks;
    taken = λ asked. two.taken asked ∙ ap (option_map (readings_behind m)) (one.taken asked)
        ∙ both_behind n m (c.readings first);
  }

  -- ---- one turn

  -- no event was left
  pub taken_end : (left left_new : Option (List Event)) (left_source : Option (List ℕ)) →
      EndsEvents left left_new left_source → (es : List Event) → left ≡ Some es → es ≡ []
  taken_end left left_new left_source ends es told = (ends.each es told).2

  pub taken_one : (left left_new : Option (List Event)) (event : Event) (old new : C) → GivesEvent left event left_new →
      Takes c system 1 old new → TakesOf c system 1 left left_new old new
  taken_one left left_new event old new gives one = record {
    takes = one;
    each = λ es told.
        let found = gives.each es told in
        let longer : length es ≡ suc (length found.0) = ap length found.2 in
        (found.0, found.1, omega (arith, longer));
  }

  -- no event was read
  pub taken_unread : (left : Option (List Event)) (clock : C) → TakesAtMost c system left clock clock
  taken_unread left clock =
      record { count = 0; takes = takes_none clock clock refl; most = λ es told. omega arith }

  -- one was read, and not carried out
  pub taken_halted : (left left_new : Option (List Event)) (event : Event) (old new : C) →
      GivesEvent left event left_new → Takes c system 1 old new → TakesAtMost c system left old new
  taken_halted left left_new event old new gives one = record {
    count = 1;
    takes = one;
    most = λ es told.
        let longer = ((taken_one left left_new event old new gives one).each es told).2 in
        omega (arith, longer);
  }

  -- a fault that a `?` passes on
  pub taken_passed : {A : Type 0} (left left_new : Option (List Event)) (result : Result (Option A) Fault)
      (fault : Fault) (old new : C) → IsErrAnd result (λ e. e ≡ fault) → TakesAtMost c system left old new →
      TakesTurn c system left left_new result old new
  taken_passed left left_new (Ok a) fault old new is takes = absurd is
  taken_passed left left_new (Err e) fault old new is takes = takes

  -- ---- the turns so far

  pub taken_not_yet : (left_start left : Option (List Event)) (clock : C) → left ≡ left_start →
      TakesSoFar c system left_start left clock clock
  taken_not_yet left_start left clock same =
      (0, record { takes = takes_none clock clock refl; each = λ es told. (es, same ∙ told, omega arith) })

  pub taken_on : (left_start left left_new : Option (List Event)) (first old new : C) →
      TakesSoFar c system left_start left first old → TakesOf c system 1 left left_new old new →
      TakesSoFar c system left_start left_new first new
  taken_on left_start left left_new first old new so_far one = (
    so_far.0 + 1,
    record {
      takes = takes_more so_far.0 1 first old new so_far.1.takes one.takes;
      each = λ es told.
          let before = so_far.1.each es told in
          let found = one.each before.0 before.1 in
          (found.0, found.1, omega (arith, before.2, found.2));
    },
  )

  -- ---- how they end

  pub taken_all : (left_start left : Option (List Event)) (refusals : ℕ) (first old new : C) →
      TakesSoFar c system left_start left first old → ((es : List Event) → left ≡ Some es → es ≡ []) → new ≡ old →
      TakesFor c system left_start (Read refusals) first new
  taken_all left_start left refusals first old new so_far none same = record {
    count = so_far.0 + 0;
    takes = takes_more so_far.0 0 first old new so_far.1.takes (takes_none old new same);
    each = λ asked es told.
        let before = so_far.1.each es told in
        let ended : length before.0 ≡ 0 = ap length (none before.0 before.1) in
        omega (arith, before.2, ended);
  }

  pub taken_stop : (left_start left : Option (List Event)) (why : Fault) (first old new : C) →
      TakesSoFar c system left_start left first old → TakesAtMost c system left old new →
      TakesFor c system left_start (Stopped why) first new
  taken_stop left_start left why first old new so_far last = record {
    count = so_far.0 + last.count;
    takes = takes_more so_far.0 last.count first old new so_far.1.takes last.takes;
    each = λ asked es told.
        let before = so_far.1.each es told in
        let few = last.most before.0 before.1 in
        omega (arith, before.2, few);
  }

  -- ---- a run that reads no event, or none by the clock

  pub taken_never : (left : Option (List Event)) (why : Fault) (clock : C) →
      TakesFor c system left (Stopped why) clock clock
  taken_never left why clock = record {
    count = 0;
    takes = takes_none clock clock refl;
    each = λ asked es told. omega arith;
  }

-- the ticks take none
pub ticks_take_none : {C : Type 0} (c : Ghosts C) (left : Option (List Event)) (status : Status) (old new : C) →
    new ≡ old → TakesFor c false left status old new
ticks_take_none c left status old new same =
    record { count = 0; takes = takes_none c false old new same; each = λ asked. absurd cc }
