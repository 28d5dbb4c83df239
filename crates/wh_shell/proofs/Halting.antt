-- How a command ends that wasn't answered in full.
--     halts_before     it may not have been carried out, and nothing was written
--     halts_behind     it was carried out, and a front of its reply was written
--     reach_carried    where it was carried out
use Rattle.std.proofs.Common.{⊎_elim, inl, inr, ◌≡◌, ℕ, List, [], refl, subst}
use Rattle.wh_reply.specs.Reply.{print}
use Rattle.wh_state.specs.File.{Stands}
use Rattle.wh_machine.specs.Outcome.{Machine, rest_of}
use Rattle.wh_machine.specs.Step.{Event, step}
use Rattle.wh_world.specs.declared.disk.Disk as disks
use Rattle.wh_world.specs.declared.sink.Sink as sinks
use Rattle.wh_engine.specs.Warehouse.{machine_of, made_in, led_to}
use Rattle.wh_engine.specs.Answers.{CarriesOut}
use Rattle.wh_engine.specs.Leaves.{StandsForEither}
use Rattle.wh_engine.specs.declared.warehouse.Warehouse.{Warehouse}
use Rattle.wh_shell.specs.Open.{IsTold}
use Rattle.wh_shell.specs.Room.{reach_of, reach_after}
use Rattle.wh_shell.specs.Serving.{HaltsBy, Halts}
use Rattle.wh_shell.specs.Writing.{WritesFront}
use Rattle.wh_shell.specs.declared.fault.Fault.{Fault}
use Rattle.wh_shell.proofs.Written.{writes_none}

module _ {D K : Type 0} {g : disks.Ghosts D} (k : sinks.Ghosts K) (old new : Warehouse D g) (event : Event) where
  -- it may not have been carried out, and nothing was written
  pub halts_before : (out : K) (why : Fault) →
      (IsTold old → (image : List ℕ) → g.may_leave new.fetch.disk image →
      StandsForEither (machine_of old).state (step (machine_of old) event).0.state image) →
      HaltsBy k old new event out out why → Halts k old new event out out why
  halts_before out why leaves cause = record {
    breaks = λ told. record {
      front = [];
      rest = print (step (machine_of old) event).1;
      parts = refl;
      written = writes_none (k.held out);
      leaves = λ image left. ⊎_elim (λ before. inl (refl, before)) (λ behind. inr behind) (leaves told image left);
    };
    cause = cause;
  }

  -- it was carried out, and a front of its reply was written
  pub halts_behind : (out out_new : K) (why : Fault) →
      (IsTold old → machine_of new ≡ (step (machine_of old) event).0) →
      (IsTold old → (image : List ℕ) → g.may_leave new.fetch.disk image → Stands image (rest_of (machine_of new))) →
      (IsTold old → WritesFront (print (step (machine_of old) event).1) (k.held out) (k.held out_new)) →
      HaltsBy k old new event out out_new why → Halts k old new event out out_new why
  halts_behind out out_new why stepped leaves writes cause = record {
    breaks = λ told. record {
      front = (writes told).front;
      rest = (writes told).rest;
      parts = (writes told).parts;
      written = (writes told).written;
      leaves = λ image left.
          inr (subst (λ (n : Machine). Stands image (rest_of n)) (stepped told) (leaves told image left));
    };
    cause = cause;
  }

-- where an event is carried out
pub reach_carried : {D : Type 0} {g : disks.Ghosts D} (old new : Warehouse D g) (event : Event) →
    CarriesOut old new (made_in old event) (led_to old event) → reach_of new ≡ reach_after (reach_of old) event
reach_carried old new event carried =
    λ i. record { end = carried.grows i; stored = carried.stored i; machine = carried.stepped i }
