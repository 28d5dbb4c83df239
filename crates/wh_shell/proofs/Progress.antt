-- What is written and committed goes on from turn to turn.
--     answers_first, stops_first     a turn whose event is known
--     stops_none                     a turn that found out no event
--     goes_not_yet, goes_more        the turns so far
--     stops_more, serves_all         how they end
use Rattle.std.proofs.Common.{◌≡◌, ℕ, ◌+◌, ◌≤◌, List, [], ◌∷◌, ◌++◌, length, refl, ap, sym, ◌∙◌, subst, arith}
use Rattle.std.proofs.Common.{append_assoc, add-zero, append-nil, length-append, Option, false}
use Rattle.std.specs.Prelude.{is_some}
use Rattle.std.specs.Option.{option_to_list}
use Rattle.wh_reply.specs.Reply.{print}
use Rattle.wh_state.specs.Written.{is_beyond}
use Rattle.wh_machine.specs.Outcome.{Machine}
use Rattle.wh_machine.specs.Step.{Event, step, after, text, refusals}
use Rattle.wh_machine.specs.Stop.{StandsWithin}
use Rattle.wh_machine.proofs.ReplyLaws.{text_append, refusals_append}
use Rattle.wh_world.specs.declared.disk.Disk as disks
use Rattle.wh_world.specs.declared.source.Source as sources
use Rattle.wh_world.specs.declared.sink.Sink as sinks
use Rattle.wh_journal.specs.Crash.{LeavesOnly}
use Rattle.wh_journal.proofs.CrashLemmas.{both, weaker}
use Rattle.wh_engine.specs.Warehouse.{machine_of}
use Rattle.wh_engine.specs.Leaves.{StandsForEither}
use Rattle.wh_engine.specs.declared.warehouse.Warehouse.{Warehouse}
use Rattle.wh_shell.specs.Commits.{Adds}
use Rattle.wh_shell.specs.Crash.{EndsSafely}
use Rattle.wh_shell.specs.Open.{IsToldWith, IsTold}
use Rattle.wh_shell.specs.Point.{Point, point_of, IsToldAt}
use Rattle.wh_shell.specs.Reading.{GivesEvent}
use Rattle.wh_shell.specs.Room.{Reach, made_at, reach_after, all_made_at, first_beyond, fitting_at}
use Rattle.wh_shell.specs.World.{World, world_of, IsLater}
use Rattle.wh_shell.specs.Writing.{Writes, WritesFront}
use Rattle.wh_shell.specs.Serving.{refusals_of, Carries, Breaks, Halts, AnswersFirst, Answers, Finds, IsFull, Stops}
use Rattle.wh_shell.specs.Serving.{Serves, GoesOn, Goes}
use Rattle.wh_shell.specs.declared.fault.Fault.{Fault}
use Rattle.wh_shell.proofs.CauseLemmas.{halted_cause, full_first, counted_since}
use Rattle.wh_shell.proofs.CommitLemmas.{adds_none, adds_then}
use Rattle.wh_shell.proofs.RoomLemmas.{reach_one, machine_reached, made_more, room_behind, fits_behind}
use Rattle.wh_shell.proofs.Safety.{halts_safely, safely_more}
use Rattle.wh_shell.proofs.Within.{within_none, within_either, within_wider}
use Rattle.wh_shell.proofs.Written.{writes_none, writes_both}

-- ---- one turn

module _ {D S K : Type 0} {g : disks.Ghosts D} (k : sinks.Ghosts K) (old new : Warehouse D g) (event : Event)
    (left left_new : Option (List Event)) (script script_new : S) (out out_new : K) where
  -- the first event of what was left was carried out
  pub answers_first : (count : ℕ) → count ≤ 1 → GivesEvent left event left_new →
      (IsTold old → Carries k old new event out out_new count) →
      (IsTold old → LeavesOnly g.moment g.left_since old.fetch.disk new.fetch.disk
      (StandsForEither (machine_of old).state (step (machine_of old) event).0.state)) →
      Answers g k (point_of old left script out) (point_of new left_new script_new out_new) count
  answers_first count few gives done run = record {
    few = few;
    each = λ told es told_left.
        let found = gives.each es told_left in
        let here = done told in
        record {
          event = event;
          rest = found.0;
          first = found.2;
          left = found.1;
          room = here.room;
          reach = here.reach;
          adds = here.adds;
          written = here.written;
          refused = here.refused;
        };
    leaves = λ told.
        subst (λ (r : Reach). LeavesOnly g.moment g.left_since old.fetch.disk new.fetch.disk
        (StandsForEither (machine_of old).state r.machine.state)) (sym (done told).reach) (run told);
  }

  -- a front of its reply is a front of the text of all that was left
  front_of_reply : (es rest : List Event) → es ≡ event ∷ rest → Breaks k old new event out out_new →
      WritesFront (text (machine_of old) es) (k.held out) (k.held out_new)
  front_of_reply es rest first halts =
      let behind : List ℕ = text (step (machine_of old) event).0 rest in
      record {
        front = halts.front;
        rest = halts.rest ++ behind;
        parts =
            sym (append_assoc halts.front halts.rest behind) ∙ ap (λ x. x ++ behind) halts.parts
            ∙ sym (ap (text (machine_of old)) first);
        written = halts.written;
      }

  -- the first event of what was left was stopped at
  pub stops_first : (s : sources.Ghosts S) (why : Fault) → GivesEvent left event left_new →
      (IsTold old → LeavesOnly g.moment g.left_since old.fetch.disk new.fetch.disk
      (StandsForEither (machine_of old).state (step (machine_of old) event).0.state)) →
      Halts k old new event out out_new why →
      Stops g s k (point_of old left script out) (world_of new.fetch.disk script_new out_new) why
  stops_first s why gives run halts = record {
    front = λ told es told_left.
        let found = gives.each es told_left in
        front_of_reply es found.0 found.2 (halts.breaks told);
    safe = halts_safely g k old new event left left_new script script_new out out_new why gives run halts;
    cause = halted_cause g s k old new event script script_new out out_new why halts.cause;
    full = λ len need is.
        full_first g k old new event left left_new script script_new out out_new why len need is gives halts.cause;
  }

-- nothing was written
pub stops_none : (m : Machine) (es : List Event) (held : Option (List ℕ)) → WritesFront (text m es) held held
stops_none m es held = record { front = []; rest = text m es; parts = refl; written = writes_none held }

-- ---- all turns so far

-- one event behind the first ones
abbrev then_one : List Event → Event → List Event
then_one done event = done ++ event ∷ []

-- the text of the first events, and the reply to one more
text_one : (start now : Machine) (done : List Event) (event : Event) → now ≡ after start done →
    text start done ++ print (step now event).1 ≡ text start (then_one done event)
text_one start now done event machine =
    ap (λ m. text start done ++ print (step m event).1) machine
    ∙ ap (λ l. text start done ++ l) (sym (append-nil (print (step (after start done) event).1)))
    ∙ sym (text_append start done (event ∷ []))

-- their refusals, and that of one more
refusals_one : (start now : Machine) (done : List Event) (event : Event) → now ≡ after start done →
    refusals start done + refusals_of now event ≡ refusals start (then_one done event)
refusals_one start now done event machine =
    ap (λ m. refusals start done + refusals_of m event) machine
    ∙ ap (λ n. refusals start done + n) (sym (add-zero (refusals_of (after start done) event)))
    ∙ sym (refusals_append start done (event ∷ []))

-- ---- from turn to turn

module _ {D S K : Type 0} (d : disks.Ghosts D) (k : sinks.Ghosts K) where
  -- no turn yet
  pub goes_not_yet : (limit : ℕ) (reach : Reach) (left_start left : Option (List Event)) (world : World D S K) →
      left ≡ left_start →
      (IsToldWith (d.bytes world.disk) reach.machine → LeavesOnly d.moment d.left_since world.disk world.disk
      (StandsForEither reach.machine.state reach.machine.state)) →
      Goes d k (record { limit = limit; reach = reach; left = left_start; world = world })
      (record { limit = limit; reach = reach; left = left; world = world }) 0
  goes_not_yet limit reach left_start left world same run = record {
    each = λ is es told. record {
      rest = es;
      left = same ∙ told;
      done = [];
      parts = refl;
      reach = refl;
      room = refl;
      fits = refl;
      adds = adds_none (d.bytes world.disk);
      written = writes_none (k.held world.out);
      refused = refl;
      leaves = weaker d.moment d.left_since world.disk world.disk
          (StandsForEither reach.machine.state reach.machine.state) (StandsWithin reach.machine es 0 0)
          (λ image either. within_none reach.machine es 0 0 image (omega arith) either) (run is);
    };
  }

  -- the machine so far
  machine_now : (first now : Point D S K) (count : ℕ) (es : List Event) →
      (so_far : GoesOn d k first now count es) → now.reach.machine ≡ after first.reach.machine so_far.done
  machine_now first now count es so_far =
      ap (λ (r : Reach). r.machine) so_far.reach ∙ machine_reached first.reach so_far.done

  -- one more event, of told events
  goes_on_more : (first now new : Point D S K) (es : List Event) (count more : ℕ) → now.limit ≡ first.limit →
      LeavesOnly d.moment d.left_since now.world.disk new.world.disk
      (StandsForEither now.reach.machine.state new.reach.machine.state) →
      (so_far : GoesOn d k first now count es) → AnswersFirst d k now new more so_far.rest →
      GoesOn d k first new (count + more) es
  goes_on_more first now new es count more limit run so_far answer =
      let event : Event = answer.event in
      let others : List Event = answer.rest in
      let done : List Event = so_far.done in
      let start : Machine = first.reach.machine in
      let machine : now.reach.machine ≡ after start done = machine_now first now count es so_far in
      let stepped : new.reach.machine ≡ (step now.reach.machine event).0 =
      ap (λ (r : Reach). r.machine) answer.reach in
      let behind : done ++ event ∷ others ≡ es = ap (λ fs. done ++ fs) (sym answer.first) ∙ so_far.parts in
      let within : is_beyond first.limit now.reach.end (made_at now.reach event) ≡ false =
      subst (λ (l : ℕ). is_beyond l now.reach.end (made_at now.reach event) ≡ false) limit answer.room in
      let fitting : List Event = fitting_at first.limit new.reach others in
      let commits : all_made_at first.reach done ++ option_to_list (made_at now.reach event)
      ≡ all_made_at first.reach (then_one done event) =
      ap (λ (r : Reach). all_made_at first.reach done ++ option_to_list (made_at r event)) so_far.reach
      ∙ sym (made_more first.reach done event) in
      record {
        rest = others;
        left = answer.left;
        done = then_one done event;
        parts = append_assoc done (event ∷ []) others ∙ behind;
        reach = answer.reach ∙ ap (λ (r : Reach). reach_after r event) so_far.reach
            ∙ sym (reach_one first.reach done event);
        room = so_far.room ∙ ap (first_beyond first.limit now.reach) answer.first
            ∙ room_behind first.limit event now.reach new.reach others within answer.reach;
        fits = so_far.fits ∙ ap (λ fs. done ++ fitting_at first.limit now.reach fs) answer.first
            ∙ ap (λ fs. done ++ fs) (fits_behind first.limit event now.reach new.reach others within answer.reach)
            ∙ sym (append_assoc done (event ∷ []) fitting);
        adds = subst (Adds (d.bytes first.world.disk) (d.bytes new.world.disk)) commits
            (adds_then (d.bytes first.world.disk) (d.bytes now.world.disk) (d.bytes new.world.disk)
            (all_made_at first.reach done) (option_to_list (made_at now.reach event)) so_far.adds answer.adds);
        written = subst (λ (l : List ℕ). Writes l (k.held first.world.out) (k.held new.world.out))
            (text_one start now.reach.machine done event machine)
            (writes_both (text start done) (print (step now.reach.machine event).1)
            (k.held first.world.out) (k.held now.world.out) (k.held new.world.out) so_far.written answer.written);
        refused =
            ap (λ n. n + more) so_far.refused ∙ ap (λ n. refusals start done + n) answer.refused
            ∙ refusals_one start now.reach.machine done event machine;
        leaves = both d.moment d.left_since first.world.disk now.world.disk new.world.disk
            (StandsWithin start es 0 (length (then_one done event)))
            (weaker d.moment d.left_since first.world.disk now.world.disk (StandsWithin start es 0 (length done))
            (StandsWithin start es 0 (length (then_one done event)))
            (within_wider start es 0 (length done) 0 (length (then_one done event)) (omega arith)
            (omega (arith, length-append done (event ∷ [])))) so_far.leaves)
            (weaker d.moment d.left_since now.world.disk new.world.disk
            (StandsForEither now.reach.machine.state new.reach.machine.state)
            (StandsWithin start es 0 (length (then_one done event)))
            (λ image either. within_either start now.reach.machine new.reach.machine es done others event image behind
            machine stepped either) run);
      }

  -- one more event was carried out
  pub goes_more : (first now new : Point D S K) (count more : ℕ) → now.limit ≡ first.limit →
      (IsToldAt d first → IsToldAt d now) → Goes d k first now count → Answers d k now new more →
      Goes d k first new (count + more)
  goes_more first now new count more limit stays goes answers = record {
    each = λ is es told.
        let so_far : GoesOn d k first now count es = goes.each is es told in
        goes_on_more first now new es count more limit (answers.leaves (stays is)) so_far
        (answers.each (stays is) so_far.rest so_far.left);
  }

  -- what is left makes up the whole text
  text_parts : (first now : Point D S K) (count : ℕ) (es : List Event) → (so_far : GoesOn d k first now count es) →
      (fs : List Event) →
      text first.reach.machine so_far.done ++ text now.reach.machine fs
      ≡ text first.reach.machine (so_far.done ++ fs)
  text_parts first now count es so_far fs =
      ap (λ m. text first.reach.machine so_far.done ++ text m fs) (machine_now first now count es so_far)
      ∙ sym (text_append first.reach.machine so_far.done fs)

  -- a front of the rest is a front of the whole
  front_more : (first now : Point D S K) (new : World D S K) (count : ℕ) (es : List Event) →
      (so_far : GoesOn d k first now count es) →
      WritesFront (text now.reach.machine so_far.rest) (k.held now.world.out) (k.held new.out) →
      WritesFront (text first.reach.machine es) (k.held first.world.out) (k.held new.out)
  front_more first now new count es so_far end =
      let front : List ℕ = text first.reach.machine so_far.done in
      record {
        front = front ++ end.front;
        rest = end.rest;
        parts = append_assoc front end.front end.rest ∙ ap (λ x. front ++ x) end.parts
            ∙ text_parts first now count es so_far so_far.rest ∙ ap (text first.reach.machine) so_far.parts;
        written = writes_both front end.front (k.held first.world.out) (k.held now.world.out) (k.held new.out)
            so_far.written end.written;
      }

  -- the first commit that there is no room for, behind others
  written_more : (first now : Point D S K) (new : World D S K) (count len need : ℕ) (es : List Event) →
      now.limit ≡ first.limit → (so_far : GoesOn d k first now count es) → IsToldAt d now → IsFull d k now new len need →
      Writes (text first.reach.machine (fitting_at first.limit first.reach es)) (k.held first.world.out)
      (k.held new.out)
  written_more first now new count len need es limit so_far told full =
      let front : List ℕ = text first.reach.machine so_far.done in
      let fits : List Event = fitting_at first.limit now.reach so_far.rest in
      let all : front ++ text now.reach.machine (fitting_at now.limit now.reach so_far.rest)
      ≡ text first.reach.machine (fitting_at first.limit first.reach es) =
      ap (λ (l : ℕ). front ++ text now.reach.machine (fitting_at l now.reach so_far.rest)) limit
      ∙ text_parts first now count es so_far fits ∙ ap (text first.reach.machine) (sym so_far.fits) in
      subst (λ (l : List ℕ). Writes l (k.held first.world.out) (k.held new.out)) all
      (writes_both front (text now.reach.machine (fitting_at now.limit now.reach so_far.rest))
      (k.held first.world.out) (k.held now.world.out) (k.held new.out) so_far.written
      (full.written told so_far.rest so_far.left))

  full_more : (first now : Point D S K) (new : World D S K) (count len need : ℕ) → now.limit ≡ first.limit →
      (IsToldAt d first → IsToldAt d now) → Goes d k first now count → IsFull d k now new len need →
      IsFull d k first new len need
  full_more first now new count len need limit stays goes full = record {
    past = omega (arith, full.past, limit);
    first = λ is es told.
        let so_far : GoesOn d k first now count es = goes.each is es told in
        so_far.room ∙ ap (λ (l : ℕ). first_beyond l now.reach so_far.rest) (sym limit)
        ∙ full.first (stays is) so_far.rest so_far.left;
    written = λ is es told.
        written_more first now new count len need es limit (goes.each is es told) (stays is) full;
  }

  -- the run stopped at a turn
  pub stops_more : (s : sources.Ghosts S) (first now : Point D S K) (new : World D S K) (count : ℕ) (why : Fault) →
      now.limit ≡ first.limit → is_some (d.bytes now.world.disk) ≡ is_some (d.bytes first.world.disk) →
      (IsToldAt d first → IsToldAt d now) → IsLater d s k first.world now.world →
      Goes d k first now count → Stops d s k now new why → Stops d s k first new why
  stops_more s first now new count why limit same stays later goes stops = record {
    front = λ is es told.
        let so_far : GoesOn d k first now count es = goes.each is es told in
        front_more first now new count es so_far (stops.front (stays is) so_far.rest so_far.left);
    safe = safely_more d k first now new count stays goes stops.safe;
    cause = counted_since d s k first.world now.world new later (λ told. same ∙ told) why stops.cause;
    full = λ len need is. full_more first now new count len need limit stays goes (stops.full len need is);
  }

  -- where no event is left, all of them were carried out
  pub serves_all : (s : sources.Ghosts S) (first now new : Point D S K) (count : ℕ) →
      (IsToldAt d first → IsToldAt d now) → Goes d k first now count → Finds s now new →
      EndsSafely d k now new.world → Serves d s k first new.reach.machine new.world count
  serves_all s first now new count stays goes finds safe = record {
    each = λ is es told.
        let so_far : GoesOn d k first now count es = goes.each is es told in
        let end = finds.ends.each so_far.rest so_far.left in
        let whole : so_far.done ≡ es =
        sym (append-nil so_far.done) ∙ ap (λ fs. so_far.done ++ fs) (sym end.2) ∙ so_far.parts in
        record {
          written = subst (λ (fs : List Event).
              Writes (text first.reach.machine fs) (k.held first.world.out) (k.held new.world.out)) whole
              (ap k.held finds.out ∙ so_far.written);
          refused = so_far.refused ∙ ap (refusals first.reach.machine) whole;
          read = end.1;
          room = so_far.room ∙ ap (first_beyond first.limit now.reach) end.2;
          adds = subst (λ (fs : List Event).
              Adds (d.bytes first.world.disk) (d.bytes new.world.disk) (all_made_at first.reach fs)) whole
              (subst (λ (last : D).
              Adds (d.bytes first.world.disk) (d.bytes last) (all_made_at first.reach so_far.done)) (sym finds.disk)
              so_far.adds);
        };
    reached = λ is es told.
        let so_far : GoesOn d k first now count es = goes.each is es told in
        let end = finds.ends.each so_far.rest so_far.left in
        let whole : so_far.done ≡ es =
        sym (append-nil so_far.done) ∙ ap (λ fs. so_far.done ++ fs) (sym end.2) ∙ so_far.parts in
        ap (λ (r : Reach). r.machine) finds.reach ∙ machine_now first now count es so_far
        ∙ ap (after first.reach.machine) whole;
    safe = safely_more d k first now new.world count stays goes safe;
  }
