-- What is asked of the streams of a condition.
--     verdict_of       what the code's verdict stands for
--     ids_told         the ids of the objects of some names
use Rattle.std.specs.Prelude.{ℕ, List}
use Rattle.std.specs.List.{flat_map}
use Rattle.std.specs.Option.{option_to_list}
use Rattle.wh_reply.specs.View.{refusal_view}
use Rattle.wh_state.specs.State.{Object, id_of}
use Rattle.wh_machine.specs.Ticks as machine
use Rattle.wh_tick.specs.declared.condition.Verdict.{Verdict}
use Rattle.wh_tick.specs.declared.condition.Verdict.TheVariants as verdicts

abbrev pub verdict_of : Verdict → machine.Verdict
verdict_of (verdicts.Fails why) = machine.Fails (refusal_view why)
verdict_of verdicts.Holds = machine.Holds
verdict_of verdicts.HoldsNot = machine.HoldsNot

abbrev pub ids_told : List Object → List (List ℕ) → List ℕ
ids_told objects names = flat_map (λ name. option_to_list (id_of name objects)) names
