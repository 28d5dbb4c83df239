-- The tests of a condition's streams.
--     first_append     the first refusal of tests behind others
--     tests_of         the refusal, by what each of the tests finds
--     kind_stream      whether a stream stands at an id
--     verdict_is       the verdict, by a refusal and by what holds
--     unnamed, no_stream, by_stream     whether the stream of a name has rows to show
use Rattle.std.proofs.Common.{◌≡◌, ℕ, Bool, false, List, [], ◌∷◌, ◌++◌, map, Option, Some, None, refl, ap, ◌∙◌}
use Rattle.std.specs.Prelude.{is_some}
use Rattle.std.specs.Option.{option_or, option_and_then, option_map_or}
use Rattle.wh_reply.specs.Reply.{Refusal}
use Rattle.wh_machine.specs.Tests.{first_of}
use Rattle.wh_machine.specs.Reading.{start_in, reading_refusal}
use Rattle.wh_net.specs.Stream.{rows_shown, has_rows}
use Rattle.wh_state.specs.State.{Object, Stream, at_id, id_of}
use Rattle.wh_state.specs.Objects.{as_stream, is_stream, stream_at, is_kind_at}
use Rattle.wh_machine.specs.Outcome.{Machine}
use Rattle.wh_machine.specs.Ticks.{Guard, unknown_in, no_stream_in, guard_refusal, shows, verdict_by, guard_verdict}
use Rattle.wh_decide.proofs.NamingLemmas.{alone}
use Rattle.wh_tick.specs.Guards.{ids_told}

first_append : (tests more : List (Option Refusal))
    → first_of (tests ++ more) ≡ option_or (first_of tests) (first_of more)
first_append [] more = refl
first_append (None ∷ tests) more = first_append tests more
first_append (Some why ∷ tests) more = refl

pub tests_of : (m : Machine) (streams : List (List ℕ)) (unknown other : Option Refusal)
    → first_of (map (unknown_in m.state.objects) streams) ≡ unknown
    → first_of (map (no_stream_in m.state.objects) streams) ≡ other
    → guard_refusal m streams ≡ option_or (option_or unknown other)
    (reading_refusal m.state.objects m.state.last (ids_told m.state.objects streams))
unfolding guard_refusal
tests_of m streams unknown other is_unknown is_other =
    let names : List (Option Refusal) = map (unknown_in m.state.objects) streams in
    let kinds : List (Option Refusal) = map (no_stream_in m.state.objects) streams in
    let reading : Option Refusal =
    reading_refusal m.state.objects m.state.last (ids_told m.state.objects streams) in
    first_append (names ++ kinds) (reading ∷ [])
    ∙ (λ i. option_or (first_append names kinds i) (alone reading i))
    ∙ (λ i. option_or (option_or (is_unknown i) (is_other i)) reading)

pub kind_stream : (objects : List Object) (id : ℕ) → is_some (stream_at objects id) ≡ is_kind_at is_stream objects id
kind_stream objects id = by_found (at_id objects id)
  where
    by_found : (found : Option Object)
        → is_some (option_and_then as_stream found) ≡ option_map_or (λ o. is_stream o.kind) found false
    by_found None = refl
    by_found (Some o) = refl

pub verdict_is : (m : Machine) (g : Guard) (found : Option Refusal) (so : Bool) → found ≡ guard_refusal m g.streams
    → so ≡ g.holds (shows m) → verdict_by found so ≡ guard_verdict m g
verdict_is m g found so is holds = λ i. verdict_by (is i) (holds i)

-- ---- whether a stream has rows to show

module _ (m : Machine) where
  abbrev of_stream : Option Stream → Bool
  of_stream found = option_map_or (λ s. has_rows (rows_shown m.state.objects s (start_in m 0))) found false

  abbrev of_id : Option ℕ → Bool
  of_id found = option_map_or (λ id. of_stream (stream_at m.state.objects id)) found false

  pub unnamed : (name : List ℕ) → None ≡ id_of name m.state.objects → false ≡ shows m name
  unnamed name none = ap of_id none

  pub no_stream : (name : List ℕ) (id : ℕ) → Some id ≡ id_of name m.state.objects → None ≡ stream_at m.state.objects id
      → false ≡ shows m name
  no_stream name id is none = ap of_stream none ∙ ap of_id is

  pub by_stream : (name : List ℕ) (id : ℕ) (s : Stream) (start : ℕ) → Some id ≡ id_of name m.state.objects
      → Some s ≡ stream_at m.state.objects id → start ≡ start_in m 0
      → has_rows (rows_shown m.state.objects s start) ≡ shows m name
  by_stream name id s start is there at =
      ap (λ (to : ℕ). has_rows (rows_shown m.state.objects s to)) at ∙ ap of_stream there ∙ ap of_id is
