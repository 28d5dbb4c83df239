-- Streams: CREATE STREAM and DROP STREAM.
--     create_stream, drop_stream     their outcomes
use Rattle.std.specs.Prelude.{ℕ, [], ◌∷◌, ◌++◌, Option}
use Rattle.wh_value.specs.declared.limit.Limit.TheVariants as limits
use Rattle.wh_ddl_naming.specs.Streams.{NewStream}
use Rattle.wh_reply.specs.Reply.{Refusal, OverLimit, CreatedStream, DroppedStream}
use Rattle.wh_state.specs.State.{State}
use Rattle.wh_state.specs.Act.{MakesStream, DropsObject}
use Rattle.wh_state.specs.Objects.{name_at}
use Rattle.wh_machine.specs.Tests.{refused_if, first_of}
use Rattle.wh_machine.specs.Outcome.{Machine, Outcome, commits, unless}
use Rattle.wh_machine.specs.Definitions.{is_long, count_refusals}

-- the first test that a new stream fails, behind those of names
unfoldable pub stream_refusal : State → Option Refusal → NewStream → Option Refusal
stream_refusal s wrong n =
    first_of (wrong ∷ count_refusals s 0 ++ refused_if (is_long n.name) (OverLimit limits.Name) ∷ [])

unfoldable pub create_stream : Machine → Option Refusal → NewStream → Outcome
create_stream m wrong n = unless (stream_refusal m.state wrong n)
    (commits m (CreatedStream n.name) (MakesStream n.name n.table n.is_append_only ∷ []))

unfoldable pub drop_stream : Machine → Option Refusal → ℕ → Outcome
drop_stream m wrong id =
    unless wrong (commits m (DroppedStream (name_at m.state.objects id)) (DropsObject id ∷ []))
