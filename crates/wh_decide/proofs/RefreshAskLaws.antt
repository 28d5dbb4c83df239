-- What a refresh asks for, as its reply tells.
--     refused_asks     nothing is said of a refusal
--     nothing_asks, none_asks, unbound_asks     nor where nothing is refreshed
--     to_bring         over references to the objects of a catalog
--     failed_asks      nor of a refresh that failed
use Rattle.std.proofs.Common.{◌≡◌, ℕ, List, [], ◌∷◌, map, Option, Some, None, Result, Ok, Err, refl, sym, ap, subst}
use Rattle.std.specs.Result.{IfOk}
use denote.Ref.{Bor}
use Rattle.wh_part.specs.declared.meta.PartId.{PartId}
use Rattle.wh_reply.specs.Reply.{Reply, Refusal, Refused}
use Rattle.wh_ddl_naming.specs.Statements.{Bound}
use Rattle.wh_state.specs.Dynamic.{Dynamic}
use Rattle.wh_moment.specs.Upstream.{dynamics_of, brought}
use Rattle.wh_machine.specs.Outcome.{Outcome, Refuses, Does}
use Rattle.wh_machine.specs.Dynamics.{failed_of}
use Rattle.wh_catalog.specs.declared.catalog.Catalog.{Catalog}
use Rattle.wh_catalog.specs.declared.object.StoredObject.{StoredObject}
use Rattle.wh_catalog.specs.Catalog.{kept_of}
use Rattle.wh_catalog.specs.Object.{kept_objects}
use Rattle.wh_refresh.specs.Objects.{objects_in, objects_at}
use Rattle.wh_refresh.specs.Asked.{AsksAsBrought}
use Rattle.wh_refresh.specs.declared.refreshing.Refreshing.{Refreshing}
use Rattle.wh_refresh.specs.declared.refreshing.Refreshing.TheVariants.{Fails, Brings}
use Rattle.wh_decide.specs.declared.decision.Decision.{Decision}
use Rattle.wh_decide.specs.declared.decision.Decision.TheVariants.{Refuse, Do}
use Rattle.wh_decide.specs.declared.sight.Sight.{Sight}
use Rattle.wh_decide.specs.Decision.{answer_of}
use Rattle.wh_decide.specs.Sight.{machine_in, Comes}
use Rattle.wh_decide.specs.RefreshAsked.{refresh_bound, AsksToBring, AsksAsReplied}

module _ (c : Catalog) (before after : List PartId) where
  pub refused_asks : (which : Option (ℕ × ℕ)) (why : Refusal) → AsksAsReplied c which before after (Refused why)
  refused_asks None why = tt
  refused_asks (Some (id, moment)) why = tt

  pub nothing_asks : (which : Option (ℕ × ℕ)) (reply : Reply) → which ≡ None
      → AsksAsReplied c which before after reply
  nothing_asks None reply none = tt
  nothing_asks (Some refresh) reply none = absurd cc

  pub none_asks : {E : Type 0} (which : Option (ℕ × ℕ)) (r : Result Decision E) → which ≡ None
      → IfOk r (λ d. AsksAsReplied c which before after (answer_of d))
  none_asks None (Ok d) none = tt
  none_asks None (Err e) none = tt
  none_asks (Some refresh) r none = absurd cc

  pub unbound_asks : {E : Type 0} (stamp : ℕ) (b : Bound) (r : Result Decision E) → refresh_bound stamp b ≡ None
      → IfOk r (λ d. AsksAsReplied c (refresh_bound stamp b) before after (answer_of d))
  unbound_asks stamp b r none = none_asks (refresh_bound stamp b) r none

  pub to_bring : (id moment : ℕ) (objects : List (Bor StoredObject)) → kept_objects (objects_at objects) ≡ kept_of c
      → (found : Refreshing)
      → AsksAsBrought objects moment (brought (dynamics_of (objects_in objects)) id moment) before after found
      → AsksToBring c id moment before after found
  to_bring id moment objects all (Fails why) asks = tt
  to_bring id moment objects all (Brings lines changes) asks = record { objects = objects; all = all; asks = asks }

  -- what is told is the outcome's reply
  abbrev reply_in : Outcome → Reply
  reply_in (Refuses why) = Refused why
  reply_in (Does reply sessions acts) = reply

  told : (sight : Sight) (d : Decision) (o : Outcome) → Comes sight d o → reply_in o ≡ answer_of d
  told sight (Refuse why) o comes = ap reply_in comes
  told sight (Do reply settlement) o comes = ap reply_in comes.does

  failure : (sight : Sight) (which : Option (ℕ × ℕ)) (id target : ℕ) (why : Refusal) (found : Option Dynamic)
      → AsksAsReplied c which before after (reply_in (failed_of (machine_in sight) id target why found))
  failure sight None id target why found = tt
  failure sight (Some (other, moment)) id target why None = tt
  failure sight (Some (other, moment)) id target why (Some d) = tt

  pub failed_asks : (sight : Sight) (which : Option (ℕ × ℕ)) (id target : ℕ) (why : Refusal) (found : Option Dynamic)
      (d : Decision)
      → Comes sight d (failed_of (machine_in sight) id target why found)
      → AsksAsReplied c which before after (answer_of d)
  failed_asks sight which id target why found d comes =
      subst (AsksAsReplied c which before after)
      (told sight d (failed_of (machine_in sight) id target why found) comes)
      (failure sight which id target why found)
