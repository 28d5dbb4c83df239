-- Changing statements: their outcome, from what they read and hold and from their effect.
--     is_unread            it is refused for what it reads
--     is_held              another transaction holds the target, or a stream that is read
--     is_free              none of these, so it comes to its effect
--     no_table             the target is none
--     outcome_is, fails_as what its effect on the table is, or that there is none
--     is_staged, is_alone  an effect in a transaction, and outside of one
--     unseen               an INSERT looks at no row of its target
use Rattle.std.proofs.Common.{◌≡◌, ℕ, true, List, [], ◌∷◌, Option, Some, None, option_map, refl, ap, sym, ◌∙◌}
use Rattle.wh_value.specs.Value.{Row}
use Rattle.wh_value.specs.declared.limit.Limit.TheVariants as limits
use Rattle.wh_meaning.specs.Query.{Instance}
use Rattle.wh_naming.specs.Changes.{Modification, InsertRows, InsertQuery, Update, Delete, Merge}
use Rattle.wh_bound_change.specs.View as changes
use Rattle.wh_bound_change.specs.declared.change.BoundChange.{BoundChange}
use Rattle.wh_ddl_bind.specs.View.{change_of}
use Rattle.wh_effect.specs.Effect as effects
use Rattle.wh_effect.specs.Effect.{Effect, effect}
use Rattle.wh_reply.specs.Reply.{Refusal, OverLimit, TypeMismatch, Locked}
use Rattle.wh_state.specs.State.{Table}
use Rattle.wh_state.specs.Objects.{table_at}
use Rattle.wh_machine.specs.Tests.{refused_if, first_of}
use Rattle.wh_machine.specs.Offsets.{streams_among}
use Rattle.wh_machine.specs.Changes.{Changed, Fails, Gives, rows_seen, reply_to, given, given_on, fails_or}
use Rattle.wh_machine.specs.Transaction.{Transaction, begun, staged, staged_in_state, next_row_of}
use Rattle.wh_machine.specs.Sessions.{transaction_in, first_locked, with_transaction}
use Rattle.wh_machine.specs.Outcome.{Machine, Outcome, Refuses, Does}
use Rattle.wh_machine.specs.Reading.{objects_seen, instance_read, reading_refusal}
use Rattle.wh_machine.specs.Statements.{recorded, changes_in, changes_rows}
use Rattle.wh_naming.specs.Findings.{nothing_found}
use Rattle.wh_machine.specs.Names.{naming_refusal}
use Rattle.wh_decide.specs.Changes.{is_insert}
use Rattle.wh_decide.specs.Sources.{sources_refusal}
use Rattle.wh_decide.proofs.DefineLemmas.{tests_flat}
use Rattle.wh_decide.proofs.NamingLemmas.{only_width}

-- what it comes to in the session's transaction, or outside of one
abbrev pub outcome : Machine → ℕ → Changed → Outcome
outcome m session change = changes_in m session (transaction_in m.sessions session) change

-- its effect on what is seen, by the streams that it reads
abbrev pub effect_in : Machine → ℕ → List ℕ → BoundChange → Changed
effect_in m session streams b =
    given_on streams (instance_read m session b.sources.items) (change_of b)
    (table_at (objects_seen m session) b.target)

-- ---- tests

-- what is read, and then holds
tested : (m : Machine) (session : ℕ) (b : BoundChange) (streams : List ℕ) (found : Option Refusal) (locked : Option ℕ)
    → streams ≡ streams_among m.state.objects b.sources.items
    → sources_refusal m b.is_wide b.sources.items ≡ found
    → first_locked m.sessions session (b.target ∷ streams) ≡ locked
    → changes_rows m session (change_of b) ≡ outcome m session
    (fails_or (first_of (found ∷ option_map Locked locked ∷ [])) (effect_in m session streams b))
unfolding changes_rows
tested m session b streams found locked among is at_locked =
    let held : first_locked m.sessions session (b.target ∷ streams_among m.state.objects b.sources.items) ≡ locked =
    ap (λ (ids : List ℕ). first_locked m.sessions session (b.target ∷ ids)) (sym among) ∙ at_locked in
    let wide : Option Refusal = refused_if b.is_wide (OverLimit limits.Output) in
    let reading : Option Refusal = reading_refusal m.state.objects m.state.last b.sources.items in
    let tests : first_of (naming_refusal nothing_found b.is_wide ∷ reading ∷ option_map Locked (first_locked m.sessions
    session (b.target ∷ streams_among m.state.objects b.sources.items)) ∷ [])
    ≡ first_of (found ∷ option_map Locked locked ∷ []) =
    (ap (λ (o : Option Refusal). first_of (o ∷ reading ∷ option_map Locked (first_locked m.sessions session (b.target
    ∷ streams_among m.state.objects b.sources.items)) ∷ [])) (only_width b.is_wide)
    ∙ ap (λ (o : Option ℕ). first_of (wide ∷ reading ∷ option_map Locked o ∷ [])) held
    ∙ sym (tests_flat wide reading (option_map Locked locked ∷ []))
    ∙ ap (λ (o : Option Refusal). first_of (o ∷ option_map Locked locked ∷ [])) is) in
    λ i. outcome m session (fails_or (tests i) (effect_in m session (sym among i) b))

refuses : (m : Machine) (session : ℕ) (why : Refusal) → outcome m session (Fails why) ≡ Refuses why
refuses m session why = by_transaction (transaction_in m.sessions session)
  where
    by_transaction : (t : Option Transaction) → changes_in m session t (Fails why) ≡ Refuses why
    by_transaction None = refl
    by_transaction (Some t) = refl

pub is_unread : (m : Machine) (session : ℕ) (b : BoundChange) (why : Refusal)
    → sources_refusal m b.is_wide b.sources.items ≡ Some why
    → changes_rows m session (change_of b) ≡ Refuses why
is_unread m session b why is = tested m session b _ (Some why) _ refl is refl ∙ refuses m session why

pub is_held : (m : Machine) (session : ℕ) (b : BoundChange) (streams : List ℕ) (number : ℕ)
    → sources_refusal m b.is_wide b.sources.items ≡ None
    → streams ≡ streams_among m.state.objects b.sources.items
    → first_locked m.sessions session (b.target ∷ streams) ≡ Some number
    → changes_rows m session (change_of b) ≡ Refuses (Locked number)
is_held m session b streams number read among is =
    tested m session b streams None (Some number) among read is ∙ refuses m session (Locked number)

-- it passes each of them
pub is_free : (m : Machine) (session : ℕ) (b : BoundChange) (streams : List ℕ)
    → sources_refusal m b.is_wide b.sources.items ≡ None
    → streams ≡ streams_among m.state.objects b.sources.items
    → first_locked m.sessions session (b.target ∷ streams) ≡ None
    → changes_rows m session (change_of b) ≡ outcome m session (effect_in m session streams b)
is_free m session b streams read among unheld = tested m session b streams None None among read unheld

-- ---- effects

pub no_table : (m : Machine) (session : ℕ) (streams : List ℕ) (b : BoundChange)
    → table_at (objects_seen m session) b.target ≡ None
    → outcome m session (effect_in m session streams b) ≡ Refuses TypeMismatch
no_table m session streams b missing =
    ap (λ (found : Option Table). outcome m session
    (given_on streams (instance_read m session b.sources.items) (change_of b) found)) missing
    ∙ refuses m session TypeMismatch

-- on its table
pub outcome_is : (m : Machine) (session : ℕ) (streams : List ℕ) (b : BoundChange) (t : Table) (o : effects.EffectResult)
    → table_at (objects_seen m session) b.target ≡ Some t
    → effect (changes.change_of b.change) (rows_seen t) (instance_read m session b.sources.items) ≡ o
    → outcome m session (effect_in m session streams b)
    ≡ outcome m session (given b.target streams (changes.change_of b.change) o)
outcome_is m session streams b t o there comes =
    ap (λ (found : Option Table). outcome m session
    (given_on streams (instance_read m session b.sources.items) (change_of b) found)) there
    ∙ ap (λ (found : effects.EffectResult). outcome m session
    (given b.target streams (changes.change_of b.change) found)) comes

pub fails_as : (m : Machine) (session : ℕ) (streams : List ℕ) (b : BoundChange) (t : Table) (o : effects.EffectResult)
    (why : Refusal) → table_at (objects_seen m session) b.target ≡ Some t
    → effect (changes.change_of b.change) (rows_seen t) (instance_read m session b.sources.items) ≡ o
    → given b.target streams (changes.change_of b.change) o ≡ Fails why
    → outcome m session (effect_in m session streams b) ≡ Refuses why
fails_as m session streams b t o why there comes fails =
    outcome_is m session streams b t o there comes ∙ ap (outcome m session) fails ∙ refuses m session why

pub is_staged : (m : Machine) (session id : ℕ) (streams : List ℕ) (change : Modification) (e : Effect) (t : Transaction)
    (u : Table)
    → transaction_in m.sessions session ≡ Some t → table_at m.state.objects id ≡ Some u
    → outcome m session (Gives id streams change e)
    ≡ Does (reply_to change e) (with_transaction m.sessions session (staged t id streams u.next_row e)) None
is_staged m session id streams change e t u held there =
    ap (λ (found : Option Transaction). changes_in m session found (Gives id streams change e)) held
    ∙ ap (λ (found : Option Table). Does (reply_to change e)
    (with_transaction m.sessions session (staged t id streams (next_row_of found) e)) None) there

pub is_alone : (m : Machine) (session id : ℕ) (streams : List ℕ) (change : Modification) (e : Effect)
    → transaction_in m.sessions session ≡ None
    → outcome m session (Gives id streams change e)
    ≡ recorded m (reply_to change e) m.sessions (staged_in_state m.state (begun m.state.last) id streams e)
is_alone m session id streams change e closed =
    ap (λ (found : Option Transaction). changes_in m session found (Gives id streams change e)) closed

-- an INSERT looks at no row of its target
pub unseen : (change : Modification) (target : List (ℕ × Row)) (i : Instance) → is_insert change ≡ true
    → effect change [] i ≡ effect change target i
unfolding effect
unseen (InsertRows rows) target i is = refl
unseen (InsertQuery query parts) target i is = refl
unseen (Update condition parts) target i is = absurd cc
unseen (Delete condition) target i is = absurd cc
unseen (Merge source on clauses) target i is = absurd cc
