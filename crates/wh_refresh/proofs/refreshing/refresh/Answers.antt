use Rattle.std.proofs.Common.{◌≡◌, ℕ, List, [], ◌∷◌, ◌++◌, map, Option, Some, None, option_map, Vec, Global}
use Rattle.std.proofs.Common.{refl, subst, sym, ap, ◌∙◌}
use Rattle.std.specs.List.{flat_map}
use Rattle.wh_reply.specs.Reply.{Refusal, Refreshed, RefreshAction}
use Rattle.wh_reply.specs.View.{refusal_view, refreshed_view}
use Rattle.wh_state.specs.State.{State, Object}
use Rattle.wh_state.specs.Act.{Act}
use Rattle.wh_state.specs.Stored.{StoredObject}
use Rattle.wh_moment.specs.Upstream.{Dynamics, dynamics_of, brought, upstream}
use Rattle.wh_dynamic.specs.View.{dynamics_in}
use Rattle.wh_machine.specs.Tests.{first_of}
use Rattle.wh_machine.specs.Refresh as machine
use Rattle.wh_machine.specs.Refresh.{acts_of_one, brought_all, first_lost, with_upstream, refresh_by, number_refusal}
use Rattle.wh_machine.specs.Refresh.{unless_past, told_of, refresh}
use Rattle.wh_machine.specs.Brought.{AreAbove, RiseAbove}
use Rattle.wh_machine.proofs.RefreshLaws.{brought_ids}
use Rattle.wh_refresh.specs.Objects.{objects_in, stored_in}
use Rattle.wh_refresh.specs.Brought.{AreBrought, Brings, BringsOr}
use Rattle.wh_refresh.specs.Refreshing.{besides}
use Rattle.wh_refresh.specs.declared.brought.Brought.{Brought}
use Rattle.wh_refresh.specs.declared.refreshing.Asked.{Asked}
use Rattle.wh_refresh.specs.Asked.{IsFiledIn, AreCounted, AsksOfAll, by_waves}
use Rattle.wh_refresh.proofs.AskLaws.{told_actions}
use Rattle.wh_refresh.proofs.RefreshLemmas.{rises, above_rise}
use Rattle.wh_refresh.proofs.refreshing.refresh.Given.{Over}
use Rattle.wh_refresh.proofs.refreshing.refresh.Goals.{After-bring_all}
use Rattle.wh_refresh.proofs.refreshing.refresh.Goals as goal

abbrev found : State → List Object → ℕ → ℕ → Option (List machine.Brought)
found s objects id moment = brought_all s.last moment (brought (dynamics_of objects) id moment) objects

refreshed_by : (s : State) (objects : List Object) (asked : Asked) (id moment : ℕ) → s.objects ≡ objects
    → refresh s (besides asked s.objects id) id moment
    ≡ refresh_by objects moment
    (first_of (first_lost objects (with_upstream objects id) ∷ besides asked objects id ∷ []))
    (found s objects id moment)
unfolding refresh
refreshed_by s objects asked id moment same =
    ap (λ (os : List Object). refresh_by os moment
    (first_of (first_lost os (with_upstream os id) ∷ besides asked os id ∷ [])) (found s os id moment)) same

-- where nothing is refused before it is brought
brought_by : (s : State) (objects : List Object) (asked : Asked) (id moment : ℕ) → s.objects ≡ objects
    → first_lost objects (with_upstream objects id) ≡ None → besides asked objects id ≡ None
    → refresh s (besides asked s.objects id) id moment ≡ refresh_by objects moment None (found s objects id moment)
brought_by s objects asked id moment same lost suspended =
    refreshed_by s objects asked id moment same
    ∙ ap (λ (why : Option Refusal). refresh_by objects moment (first_of (why ∷ besides asked objects id ∷ []))
    (found s objects id moment)) lost
    ∙ ap (λ (why : Option Refusal). refresh_by objects moment (first_of (why ∷ [])) (found s objects id moment))
    suspended

-- the ids that are gone over
gone_over : (objects : List Object) (all : Dynamics) (id : ℕ) (ids above pushed : List ℕ) → all ≡ dynamics_of objects
    → above ≡ upstream all id → pushed ≡ above ++ id ∷ [] → ids ≡ pushed → ids ≡ with_upstream objects id
gone_over objects all id ids above pushed known up more is =
    is ∙ more ∙ ap (λ (l : List ℕ). l ++ id ∷ []) (up ∙ ap (λ (d : Dynamics). upstream d id) known)

ids_brought : (objects : List Object) (all : Dynamics) (id moment : ℕ) (given ids : List ℕ) → all ≡ dynamics_of objects
    → ids ≡ brought all id moment → given ≡ ids → given ≡ brought (dynamics_of objects) id moment
ids_brought objects all id moment given ids known is same = same ∙ is ∙ ap (λ (d : Dynamics). brought d id moment) known

brings_found : (stored : List StoredObject) (s : State) (objects : List Object) (id moment : ℕ) (ids : List ℕ)
    (all : Option (Vec Brought Global)) → ids ≡ brought (dynamics_of objects) id moment
    → ((stamp : ℕ) → BringsOr stored all (brought_all stamp moment ids objects))
    → BringsOr stored all (found s objects id moment)
brings_found stored s objects id moment ids all is brings =
    subst (λ (l : List ℕ). BringsOr stored all (brought_all s.last moment l objects)) is (brings s.last)

pub bring_all-requires-clause-watched : goal.bring_all-requires-clause-watched
bring_all-requires-clause-watched g c κs bounds = ap dynamics_in c.deref-5.ensures.value ∙ c.in_ok-all.ensures

pub bring_all-requires-clause-rising : goal.bring_all-requires-clause-rising
bring_all-requires-clause-rising g c κs bounds =
    let objects = objects_in c.args.objects.now in
    let given = ids_brought objects (dynamics_in c.deref-4.result.now) c.args.id c.args.moment c.deref-6.result.now
    c.in_ok-ids-2.ids.items (ap dynamics_in c.deref-4.ensures.value ∙ c.in_ok-all.ensures) c.in_ok-ids-2.ensures
    c.deref-6.ensures.value in
    subst (RiseAbove 0) (sym given) (rises (dynamics_of objects) c.args.id c.args.moment)

pub returns-in-Some-clause-refreshed : goal.returns-in-Some-clause-refreshed
returns-in-Some-clause-refreshed g c shown stand s same =
    let objects = objects_in c.args.objects.now in
    let id = c.args.id in
    let up = gone_over objects (dynamics_in c.deref.result.now) id c.deref-2.result.now c.in_ok-ids.ids.items
    c.push.new.self.items (ap dynamics_in c.deref.ensures.value ∙ c.in_ok-all.ensures) c.in_ok-ids.ensures
    c.in_ok-push.ensures.items c.deref-2.ensures.value in
    let lost : first_lost objects (with_upstream objects id) ≡ Some (refusal_view c.in-Some.why) =
    ap (first_lost objects) (sym up) ∙ sym c.in_ok-why.ensures ∙ ap (option_map refusal_view) c.in-Some.is in
    refreshed_by s objects c.args.asked id c.args.moment same
    ∙ ap (λ (why : Option Refusal). refresh_by objects c.args.moment
    (first_of (why ∷ besides c.args.asked objects id ∷ [])) (found s objects id c.args.moment)) lost

pub returns-in-Some-2-clause-refreshed : goal.returns-in-Some-2-clause-refreshed
returns-in-Some-2-clause-refreshed g c shown stand s same =
    let objects = objects_in c.args.objects.now in
    let id = c.args.id in
    let gone = gone_over objects (dynamics_in c.deref.result.now) id c.push.new.self.items c.in_ok-ids.ids.items
    c.push.new.self.items (ap dynamics_in c.deref.ensures.value ∙ c.in_ok-all.ensures) c.in_ok-ids.ensures
    c.in_ok-push.ensures.items refl in
    let lost : first_lost objects (with_upstream objects id) ≡ None =
    ap (first_lost objects) (sym (c.deref-2.ensures.value ∙ gone)) ∙ sym c.in_ok-why.ensures
    ∙ ap (option_map refusal_view) c.in_default.is in
    let suspended : besides c.args.asked objects id ≡ Some (refusal_view c.in-Some-2.why) =
    sym (c.in_ok-why-2.ensures id (c.deref-3.ensures.value ∙ gone)) ∙ ap (option_map refusal_view) c.in-Some-2.is in
    refreshed_by s objects c.args.asked id c.args.moment same
    ∙ ap (λ (why : Option Refusal). refresh_by objects c.args.moment
    (first_of (why ∷ besides c.args.asked objects id ∷ [])) (found s objects id c.args.moment)) lost
    ∙ ap (λ (why : Option Refusal). refresh_by objects c.args.moment (first_of (why ∷ []))
    (found s objects id c.args.moment)) suspended

-- where tables are brought, nothing is refused before
module _ (g : Over) (c : After-bring_all g) where
  abbrev objects : List Object
  objects = objects_in c.args.objects.now

  abbrev asked_ids : List ℕ
  asked_ids = c.deref-6.result.now

  given : asked_ids ≡ brought (dynamics_of objects) c.args.id c.args.moment
  given = ids_brought objects (dynamics_in c.deref-4.result.now) c.args.id c.args.moment asked_ids
      c.in_ok-ids-2.ids.items
      (ap dynamics_in c.deref-4.ensures.value ∙ c.in_ok-all.ensures) c.in_ok-ids-2.ensures c.deref-6.ensures.value

  unrefused : (s : State) → s.objects ≡ objects
      → refresh s (besides c.args.asked s.objects c.args.id) c.args.id c.args.moment
      ≡ refresh_by objects c.args.moment None (found s objects c.args.id c.args.moment)
  unrefused s same =
      let gone = gone_over objects (dynamics_in c.deref.result.now) c.args.id c.push.new.self.items
      c.in_ok-ids.ids.items
      c.push.new.self.items (ap dynamics_in c.deref.ensures.value ∙ c.in_ok-all.ensures) c.in_ok-ids.ensures
      c.in_ok-push.ensures.items refl in
      let lost = ap (first_lost objects) (sym (c.deref-2.ensures.value ∙ gone)) ∙ sym c.in_ok-why.ensures
      ∙ ap (option_map refusal_view) c.in_default.is in
      let suspended = sym (c.in_ok-why-2.ensures c.args.id (c.deref-3.ensures.value ∙ gone))
      ∙ ap (option_map refusal_view) c.in_default-2.is in
      brought_by s objects c.args.asked c.args.id c.args.moment same lost suspended

pub returns-in_default-3-clause-refreshed : goal.returns-in_default-3-clause-refreshed
returns-in_default-3-clause-refreshed g c shown stand s same =
    let after = (goal.at.returns-in_default-3-clause-refreshed g c).After-bring_all in
    let stored = stored_in c.args.objects.now in
    let id = c.args.id in
    let moment = c.args.moment in
    let none : found s (objects g after) id moment ≡ None =
    subst (λ (all : Option (Vec Brought Global)). BringsOr stored all (found s (objects g after) id moment))
    c.in_default-3.is (brings_found stored s (objects g after) id moment (asked_ids g after) c.in_ok-all-2.field-0
    (given g after) (c.in_ok-all-2.ensures.brought shown stand)) in
    unrefused g after s same ∙ ap (refresh_by (objects g after) moment None) none

pub returns-in-Some-number_refusal-clause-refreshed : goal.returns-in-Some-number_refusal-clause-refreshed
returns-in-Some-number_refusal-clause-refreshed g c shown stand s same =
    let after = (goal.at.returns-in-Some-number_refusal-clause-refreshed g c).After-bring_all in
    let stored = stored_in c.args.objects.now in
    let id = c.args.id in
    let moment = c.args.moment in
    let brings : Brings stored c.in-Some-3.all.items (found s (objects g after) id moment) =
    subst (λ (all : Option (Vec Brought Global)). BringsOr stored all (found s (objects g after) id moment))
    c.in-Some-3.is
    (brings_found stored s (objects g after) id moment (asked_ids g after) c.in_ok-all-2.field-0 (given g after)
    (c.in_ok-all-2.ensures.brought shown stand)) in
    unrefused g after s same
    ∙ ap (refresh_by (objects g after) moment None) brings.is
    ∙ ap (λ (why : Option Refusal). unless_past why (map (told_of (objects g after) moment) brings.brought)
    (flat_map (acts_of_one moment) brings.brought))
    (sym (c.number_refusal.ensures brings.brought
    (subst (λ (all : List Brought). AreBrought stored all brings.brought) (sym c.deref-7.ensures.value) brings.are))
    ∙ ap (option_map refusal_view) c.in-Some-number_refusal.is)

pub returns-clause-refreshed : goal.returns-clause-refreshed
returns-clause-refreshed g c shown stand s same =
    let after = (goal.at.returns-clause-refreshed g c).After-bring_all in
    let stored = stored_in c.args.objects.now in
    let id = c.args.id in
    let moment = c.args.moment in
    let brings : Brings stored c.in-Some-3.all.items (found s (objects g after) id moment) =
    subst (λ (all : Option (Vec Brought Global)). BringsOr stored all (found s (objects g after) id moment))
    c.in-Some-3.is
    (brings_found stored s (objects g after) id moment (asked_ids g after) c.in_ok-all-2.field-0 (given g after)
    (c.in_ok-all-2.ensures.brought shown stand)) in
    let acts : List Act = flat_map (acts_of_one moment) brings.brought in
    let above : AreAbove 0 brings.brought = above_rise 0 brings.brought (subst (RiseAbove 0)
    (sym (brought_ids s.last moment (brought (dynamics_of (objects g after)) id moment) (objects g after) brings.brought
    brings.is)) (rises (dynamics_of (objects g after)) id moment)) in
    let seen = λ (given : List Brought) (is : given ≡ c.in-Some-3.all.items).
    subst (λ (all : List Brought). AreBrought stored all brings.brought) (sym is) brings.are in
    record {
      acts = acts;
      is = unrefused g after s same
          ∙ ap (refresh_by (objects g after) moment None) brings.is
          ∙ ap (λ (why : Option Refusal). unless_past why (map (told_of (objects g after) moment) brings.brought) acts)
          (sym (c.number_refusal.ensures brings.brought (seen _ c.deref-7.ensures.value))
          ∙ ap (option_map refusal_view) c.in_default-number_refusal.is)
          ∙ ap (λ (lines : List Refreshed). machine.Brings lines acts)
          (sym (c.in_ok-lines.ensures.lines brings.brought (seen _ c.deref-8.ensures.value)));
      written = c.in_ok-changes.ensures.written s.last brings.brought brings.are above;
    }

-- ---- what is asked for

pub returns-clause-asks : goal.returns-clause-asks
returns-clause-asks g c = λ counted.
    let after = (goal.at.returns-clause-asks g c).After-bring_all in
    let asks = rw c.in-Some-3.is at c.in_ok-all-2.ensures.asks in
    let told = c.in_ok-lines.ensures.actions ∙ ap (map (λ (one : Brought). one.action)) c.deref-8.ensures.value in
    subst (λ (ids : List ℕ). AsksOfAll (IsFiledIn c.args.objects.now ids) c.args.objects.now c.args.moment
    (by_waves (objects_in c.args.objects.now) ids) (g.F.Fetch.asked c.args.fetch.now) (g.F.Fetch.asked c.bring_all.new.fetch)) (given g after)
    (asks (subst (λ (acts : List RefreshAction). AreCounted c.args.objects.now (asked_ids g after) acts)
    (told_actions c.in_ok-lines.lines.items c.in-Some-3.all.items told)
    (subst (λ (ids : List ℕ). AreCounted c.args.objects.now ids
    (map (λ line. line.action) (map refreshed_view c.in_ok-lines.lines.items))) (sym (given g after)) counted)))
