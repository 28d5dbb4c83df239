-- What holds of the events of a script.
--     FixesEvents     each script has events by a timing whose readings are told, and these alone
use Rattle.std.specs.Prelude.{◌≡◌, ◌↔◌, ℕ, List, Some}
use Rattle.wh_machine.specs.Step.{Event}
use Rattle.wh_shell.specs.Events.{events}
use Rattle.wh_shell.specs.Timing.{Timing, IsScriptBy, timed}

abbrev pub FixesEvents : Type 0
FixesEvents = (timing : Timing) (script : List ℕ) (es : List Event) →
    IsScriptBy timing script es ↔ (timed timing (Some (events script)) ≡ Some es)
