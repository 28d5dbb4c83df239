-- What a task's statement comes to in session 0.
--     bound_alike       what is bound of a statement decides what it comes to
--     bound_failing     where a test of names fails
--     alone_in          in a session without an open transaction it is a transaction of its own
use Rattle.std.proofs.Common.{◌≡◌, ℕ, List, [], ◌∷◌, Option, Some, None, option_map, refl, sym, ap, ◌∙◌}
use Rattle.wh_value.specs.declared.limit.Limit.TheVariants as limits
use Rattle.wh_meaning.specs.Query.{Instance}
use Rattle.wh_naming.specs.Findings.{Failing, first_failing, nothing_found}
use Rattle.wh_naming.specs.Changes.{BoundChange}
use Rattle.wh_effect.specs.Effect.{effect}
use Rattle.wh_reply.specs.Reply.{OverLimit, Locked}
use Rattle.wh_state.specs.State.{Table}
use Rattle.wh_state.specs.Objects.{table_at}
use Rattle.wh_machine.specs.Tests.{refused_if, first_of}
use Rattle.wh_machine.specs.Names.{refusal_of}
use Rattle.wh_machine.specs.Offsets.{streams_among}
use Rattle.wh_machine.specs.Changes.{rows_seen, given, given_on, fails_or}
use Rattle.wh_machine.specs.Transaction.{Transaction}
use Rattle.wh_machine.specs.Sessions.{transaction_in, first_locked}
use Rattle.wh_machine.specs.Outcome.{Machine, Refuses}
use Rattle.wh_machine.specs.Reading.{objects_seen, instance_read, reading_refusal}
use Rattle.wh_machine.specs.Statements.{change_refusal, streams_read, bound_changed, changes_in, changes_rows}
use Rattle.wh_bound_change.specs.declared.change.BoundChange as code
use Rattle.wh_ddl_bind.specs.View.{change_of}
use Rattle.wh_dml_bind.specs.Binds.{IsBound}

-- ---- nothing is found wrong

given_alike : (streams : List ℕ) (read : Instance) (a b : BoundChange) (found : Option Table) → a.target ≡ b.target
    → a.change ≡ b.change → given_on streams read a found ≡ given_on streams read b found
given_alike streams read a b None target change = refl
given_alike streams read a b (Some t) target change =
    λ i. given (target i) streams (change i) (effect (change i) (rows_seen t) read)

none_failing : first_failing nothing_found ≡ None
unfolding first_failing
none_failing = refl

changed_alike : (m : Machine) (session : ℕ) (a b : BoundChange) → first_failing a.findings ≡ first_failing b.findings
    → a.target ≡ b.target → a.change ≡ b.change → a.sources ≡ b.sources → a.is_wide ≡ b.is_wide
    → bound_changed m session a ≡ bound_changed m session b
changed_alike m session a b failing target change sources wide =
    let seen = objects_seen m session in
    let refusals : change_refusal m session a ≡ change_refusal m session b =
    (λ i. first_of (first_of (option_map refusal_of (failing i) ∷ refused_if (wide i) (OverLimit limits.Output) ∷ [])
    ∷ reading_refusal m.state.objects m.state.last (sources i)
    ∷ option_map Locked (first_locked m.sessions session (target i ∷ streams_among m.state.objects (sources i)))
    ∷ [])) in
    let effects : given_on (streams_read m a) (instance_read m session a.sources) a (table_at seen a.target)
    ≡ given_on (streams_read m b) (instance_read m session b.sources) b (table_at seen b.target) =
    (λ i. given_on (streams_among m.state.objects (sources i)) (instance_read m session (sources i)) a
    (table_at seen (target i)))
    ∙ given_alike (streams_read m b) (instance_read m session b.sources) a b (table_at seen b.target) target change in
    λ i. fails_or (refusals i) (effects i)

pub bound_alike : (m : Machine) (session : ℕ) (b : code.BoundChange) (meant : BoundChange) → IsBound b meant
    → changes_rows m session (change_of b) ≡ changes_rows m session meant
unfolding changes_rows
bound_alike m session b meant h = ap (changes_in m session (transaction_in m.sessions session))
    (changed_alike m session (change_of b) meant (none_failing ∙ sym h.nothing_found) h.target h.change h.sources
    h.is_wide)

-- ---- a test of names fails

pub bound_failing : (m : Machine) (session : ℕ) (b : BoundChange) (failing : Failing)
    → first_failing b.findings ≡ Some failing → changes_rows m session b ≡ Refuses (refusal_of failing)
unfolding changes_rows
bound_failing m session b failing is = by_transaction (transaction_in m.sessions session)
  where
    by_transaction : (t : Option Transaction)
        → changes_in m session t (bound_changed m session b) ≡ Refuses (refusal_of failing)
    by_transaction None = rw is refl
    by_transaction (Some t) = rw is refl

-- ---- a transaction of its own

pub alone_in : (m : Machine) (session : ℕ) (b : BoundChange) → session ≡ 0 → transaction_in m.sessions session ≡ None
    → changes_rows m session b ≡ changes_in m 0 None (bound_changed m 0 b)
unfolding changes_rows
alone_in m session b is closed =
    ap (λ (t : Option Transaction). changes_in m session t (bound_changed m session b)) closed
    ∙ ap (λ (s : ℕ). changes_in m s None (bound_changed m s b)) is
