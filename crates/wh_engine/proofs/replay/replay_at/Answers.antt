use Rattle.std.proofs.Common.{List, ℕ, ◌≡◌, ◌++◌, drop, sym, subst, arith}
use Rattle.wh_engine.specs.Replay.{Carries, CarriesNone}
use Rattle.wh_catalog.specs.Catalog.{stored_of}
use Rattle.wh_engine.proofs.ReplayLemmas.{on_ok, payload_at}
use Rattle.wh_engine.proofs.replay.replay_at.Goals as goal

pub returns-clause-carried : goal.returns-clause-carried
returns-clause-carried g c =
    on_ok c.carry_out.result (λ one. λ payloads listed. record {
      payload = c.in_ok-payload.payload.items;
      found = c.in_ok-payload.ensures.read payloads listed.file listed.rest listed.told listed.begins listed.lists;
      carries = subst (λ (p : List ℕ). Carries p (stored_of c.args.catalog.now) (stored_of c.carry_out.new.catalog))
          c.deref.ensures.value one;
    }) c.carry_out.ensures.carried

pub returns-clause-shown : goal.returns-clause-shown
returns-clause-shown g c =
    on_ok c.carry_out.result (λ one. λ before payloads listed image same.
    let found = c.in_ok-payload.ensures.read payloads listed.file listed.rest listed.told listed.begins listed.lists in
    let here = payload_at payloads c.args.at c.place-position.result.0 c.in_ok-payload.payload.items image found
    (c.place-position.ensures.position payloads listed.lists) same in
    one image here.0 (subst (λ (p : List ℕ). drop c.place-position.result.0 image ≡ p ++ here.0)
    (sym c.deref.ensures.value) here.1) (before payloads listed image same)) c.carry_out.ensures.shown

pub returns-clause-strays : goal.returns-clause-strays
returns-clause-strays g c = λ gate stray payloads listed.
    let found = c.carry_out.ensures.strays gate stray in
    let position = c.place-position.ensures.position payloads listed.lists in
    record {
      payload = c.in_ok-payload.payload.items;
      found = c.in_ok-payload.ensures.read payloads listed.file listed.rest listed.told listed.begins listed.lists;
      none = subst (λ (p : List ℕ). CarriesNone p (stored_of c.args.catalog.now)) c.deref.ensures.value found.0;
      place = omega (arith, found.1, position);
    }
