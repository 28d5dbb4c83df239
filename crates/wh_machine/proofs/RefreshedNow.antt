-- ALTER DYNAMIC TABLE .. REFRESH that isn't refused brings its table, and each dynamic table upstream of it, to the event's
-- stamp.
--     refreshed_now      by its outcome
--     stands_now         the event
use Rattle.std.proofs.Common.{◌≡◌, ℕ, Bool, true, false, cond, List, Option, Some, None}
use Rattle.std.proofs.Common.{option_map, refl, sym, ap, subst, ◌∙◌, arith}
use Rattle.wh_ast.specs.declared.statement.Statement.TheVariants as st
use Rattle.wh_grammar.specs.Spelled.{Asked}
use Rattle.wh_ddl_naming.specs.Meant.{first_failing}
use Rattle.wh_ddl_naming.specs.Statements as ddl
use Rattle.wh_reply.specs.Reply.{Refusal, NoSuchSession, DdlInTransaction, Locked, is_refusal}
use Rattle.wh_state.specs.Edits.{is_among}
use Rattle.wh_state.proofs.SoundObjects.{IsKept, moments_within}
use Rattle.wh_state.proofs.SoundLaws.{kept_later}
use Rattle.wh_machine.specs.Sessions.{number_in}
use Rattle.wh_machine.specs.Names.{refusal_of}
use Rattle.wh_machine.specs.Outcome.{Machine, Outcome, Refuses, Does, unless, last_test, settled}
use Rattle.wh_machine.specs.Definitions.{defines, holder_of}
use Rattle.wh_machine.specs.Refresh.{Refreshing, Fails, Brings, with_upstream}
use Rattle.wh_machine.specs.Dynamics.{first_suspended, asked_refresh, refreshed_by, refresh_dynamic}
use Rattle.wh_machine.specs.Statements.{carried_out, meant_in}
use Rattle.wh_machine.specs.Step.{Event, stamp_of, is_session, commanded, step}
use Rattle.wh_machine.specs.Sound.{SoundMachine}
use Rattle.wh_machine.specs.OneMoment.{StandsAt, refreshing, id_refreshed}
use Rattle.wh_machine.proofs.KeepingLaws.{IsReady}
use Rattle.wh_machine.proofs.StepLaws.{ready, each_event}
use Rattle.wh_machine.proofs.SoundLaws.{is_ready}
use Rattle.wh_machine.proofs.OneMoment.{NoneIsLater, refresh_stands}

-- ---- outcomes that aren't refused

abbrev IsAccepted : Machine → Outcome → Type 0
IsAccepted m o = is_refusal (settled m o).1 ≡ false

unless_passed : (m : Machine) (found : Option Refusal) (o : Outcome) → IsAccepted m (unless found o)
    → unless found o ≡ o
unless_passed m None o accepted = refl
unless_passed m (Some why) o accepted = absurd cc

last_passed : (m : Machine) (found : Option Refusal) (o : Outcome) → IsAccepted m (last_test found o)
    → last_test found o ≡ o
last_passed m found (Refuses why) accepted = refl
last_passed m found (Does reply sessions acts) accepted = unless_passed m found (Does reply sessions acts) accepted

defined_as : (m : Machine) (session : ℕ) (o : Outcome) → IsAccepted m (defines m session None o)
    → defines m session None o ≡ o
unfolding defines
defined_as m session o accepted =
    let locked : Option Refusal = option_map Locked (holder_of m.sessions None) in
    let within : Option Refusal = option_map DdlInTransaction (number_in m.sessions session) in
    let first : defines m session None o ≡ last_test locked o = unless_passed m within (last_test locked o) accepted in
    first ∙ last_passed m locked o (ap (λ (p : Outcome). is_refusal (settled m p).1) (sym first) ∙ accepted)

-- ---- the refresh

none_later : (m : Machine) → IsReady m → (id : ℕ) → NoneIsLater m.state id m.state.last
none_later m ready id x d among at =
    let kept : IsKept m.state.committed m.state.objects =
    kept_later m.state m.state.committed (omega arith) ready.sound in
    omega (arith, moments_within m.state.committed m.state.objects kept x d at, ready.later)

-- the table of an id itself, or one upstream of it
abbrev IsBehind : Machine → ℕ → ℕ → Type 0
IsBehind m id x = is_among x (with_upstream m.state.objects id) ≡ true

asked_now : (m : Machine) (id : ℕ) (r : Refreshing) → asked_refresh m.state id ≡ r → IsReady m
    → IsAccepted m (refreshed_by m r) → (x : ℕ) → IsBehind m id x
    → StandsAt m.state.last (settled m (refreshed_by m r)).0.state.objects x
asked_now m id (Fails why) is ready accepted x among = absurd cc
asked_now m id (Brings lines acts) is ready accepted x among =
    refresh_stands m.state (first_suspended m.state.objects (with_upstream m.state.objects id)) id m.state.last lines
    acts is (none_later m ready id) x among

pub refreshed_now : (m : Machine) (session : ℕ) (wrong : Option Refusal) (id : ℕ) → IsReady m
    → IsAccepted m (defines m session None (refresh_dynamic m wrong id)) → (x : ℕ) → IsBehind m id x
    → StandsAt m.state.last (settled m (defines m session None (refresh_dynamic m wrong id))).0.state.objects x
unfolding refresh_dynamic
refreshed_now m session wrong id ready accepted x among =
    let asked : Outcome = refreshed_by m (asked_refresh m.state id) in
    let first : defines m session None (unless wrong asked) ≡ unless wrong asked =
    defined_as m session (unless wrong asked) accepted in
    let same : defines m session None (unless wrong asked) ≡ asked =
    first ∙ unless_passed m wrong asked (ap (λ (p : Outcome). is_refusal (settled m p).1) (sym first) ∙ accepted) in
    subst (λ (p : Outcome). StandsAt m.state.last (settled m p).0.state.objects x) (sym same)
    (asked_now m id (asked_refresh m.state id) refl ready
    (ap (λ (p : Outcome). is_refusal (settled m p).1) (sym same) ∙ accepted) x among)

-- ---- the event

command_now : (m : Machine) (session : ℕ) (name : List ℕ) → IsReady m
    → IsAccepted m (commanded m session (Asked (st.RefreshDynamicTable name)))
    → (x : ℕ) → IsBehind m (id_refreshed m.state.objects name) x
    → StandsAt m.state.last (settled m (commanded m session (Asked (st.RefreshDynamicTable name)))).0.state.objects x
unfolding commanded carried_out ddl.bound
command_now m session name ready accepted x among = by_test (is_session session) accepted
  where
    o : Outcome
    o = defines m session None (refresh_dynamic m
        (option_map refusal_of (first_failing (meant_in m (st.RefreshDynamicTable name))))
        (id_refreshed m.state.objects name))

    none : Outcome
    none = Refuses (NoSuchSession session)

    by_test : (b : Bool) → IsAccepted m (cond b o none)
        → StandsAt m.state.last (settled m (cond b o none)).0.state.objects x
    by_test true accepted = refreshed_now m session _ (id_refreshed m.state.objects name) ready accepted x among
    by_test false accepted = absurd cc

pub stands_now : (m : Machine) (reading session : ℕ) (name : List ℕ) → SoundMachine m
    → is_refusal (step m (refreshing reading session name)).1 ≡ false → (x : ℕ)
    → is_among x (with_upstream m.state.objects (id_refreshed m.state.objects name)) ≡ true
    → StandsAt (stamp_of m.state reading) (step m (refreshing reading session name)).0.state.objects x
stands_now m reading session name sound accepted x among =
    let e : Event = refreshing reading session name in
    each_event m e (λ p acts. is_refusal p.1 ≡ false → StandsAt (stamp_of m.state reading) p.0.state.objects x)
    (λ accepted. command_now (ready m e) session name (is_ready m e sound) accepted x among) (λ accepted. absurd cc)
    accepted
