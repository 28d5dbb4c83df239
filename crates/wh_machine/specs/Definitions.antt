-- What CREATE and DROP have in common.
--     count_refusals     the tests of one object more
--     is_long            a name beyond the limit
--     drops              the drop of an object, where there is one
--     defines            a statement that makes or drops objects, which stands outside of transactions
use Rattle.std.specs.Prelude.{ℕ, ◌+◌, ◌-◌, Bool, List, [], ◌∷◌, length, Option, Some, None, option_map, nat_lt}
use Rattle.wh_value.specs.Limit.{bound}
use Rattle.wh_value.specs.declared.limit.Limit.TheVariants as limits
use Rattle.wh_reply.specs.Reply.{Refusal, DdlInTransaction, Locked}
use Rattle.wh_state.specs.State.{State, live_count}
use Rattle.wh_state.specs.Act.{Act, DropsObject}
use Rattle.wh_machine.specs.Tests.{refused_past}
use Rattle.wh_machine.specs.Sessions.{Sessions, number_in, holder}
use Rattle.wh_machine.specs.Outcome.{Machine, Outcome, unless, last_test}

-- live objects are counted as they are after the statement, where so many others go
abbrev pub count_refusals : State → ℕ → List (Option Refusal)
count_refusals s gone = refused_past limits.ObjectIds (length s.objects + 1)
    ∷ refused_past limits.Objects (live_count s.objects + 1 - gone) ∷ []

abbrev pub is_long : List ℕ → Bool
is_long name = nat_lt (bound limits.Name) (length name)

abbrev pub drops : Option ℕ → List Act
drops None = []
drops (Some id) = DropsObject id ∷ []

abbrev pub holder_of : Sessions → Option ℕ → Option ℕ
holder_of sessions None = None
holder_of sessions (Some id) = holder sessions id

-- `old` is the object that is dropped or replaced, if there is one; that nobody holds it is tested last
unfoldable pub defines : Machine → ℕ → Option ℕ → Outcome → Outcome
defines m session old outcome = unless (option_map DdlInTransaction (number_in m.sessions session))
    (last_test (option_map Locked (holder_of m.sessions old)) outcome)
