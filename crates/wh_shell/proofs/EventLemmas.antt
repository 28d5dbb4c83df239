-- The events of a script, as the relation and as the function.
--     fixes_events     a script has the events that the function gives, by a timing, and these alone
--     told_events      of a told script
use Rattle.std.proofs.Common.{◌≡◌, ℕ, List, [], ◌∷◌, Option, Some, None, refl, sym, ap, ◌∙◌, option_map}
use Rattle.wh_grammar.specs.Script.{Line, CommandLine, SessionLine, TickLine, lines_of}
use Rattle.wh_machine.specs.Step.{Event, Command, Tick}
use Rattle.wh_machine.specs.Script.{HasEvents, ends, sets_session, ticks, ticks_at, commands, IsScript}
use Rattle.wh_stmt_parse.specs.Request.{request_of}
use Rattle.wh_stmt_parse.specs.Laws.{ReadsRequests}
use Rattle.wh_stmt_parse.proofs.Reading.{requests_read}
use Rattle.wh_shell.specs.Events.{events_from, events}
use Rattle.wh_shell.specs.Laws.{FixesEvents}
use Rattle.wh_shell.specs.Timing.{Timing, IsScriptBy, timed}

-- lines have no other events
one_list : {session reading : ℕ} {lines : List Line} {es : List Event} → ReadsRequests →
    HasEvents session reading lines es →
    es ≡ events_from session reading lines
one_list reads ends = refl
one_list reads (sets_session h) = one_list reads h
one_list reads (ticks {session} {reading} h) = ap (λ es. Tick reading ∷ es) (one_list reads h)
one_list reads (ticks_at {session} {reading} {n} h) = ap (λ es. Tick n ∷ es) (one_list reads h)
one_list reads (commands {session} {reading} {text} {request} {lines} asks h) =
    ap (λ gs. Command reading session request ∷ gs) (one_list reads h)
    ∙ ap (λ r. Command reading session r ∷ events_from session reading lines) (sym ((reads text request).1 asks))

-- and they have these
has_them : ReadsRequests → (session reading : ℕ) (lines : List Line) →
    HasEvents session reading lines (events_from session reading lines)
has_them reads session reading [] = ends
has_them reads session reading (CommandLine text ∷ lines) =
    commands ((reads text (request_of text)).0 refl) (has_them reads session reading lines)
has_them reads session reading (SessionLine n ∷ lines) = sets_session (has_them reads n reading lines)
has_them reads session reading (TickLine None ∷ lines) = ticks (has_them reads session reading lines)
has_them reads session reading (TickLine (Some n) ∷ lines) = ticks_at (has_them reads session n lines)

-- by the ticks
ticked_fixes : (script : List ℕ) (es : List Event) → IsScript script es → es ≡ events script
ticked_fixes script es is = one_list requests_read is

pub fixes_events : FixesEvents
fixes_events timing script es = (
  λ is. ap (λ (us : List Event). timed timing (Some us)) (sym (ticked_fixes script is.ticked is.spelled)) ∙ is.read,
  λ same. record { ticked = events script; spelled = has_them requests_read 1 0 (lines_of script); read = same },
)

-- of a told script
pub told_events : (timing : Timing) (script : List ℕ) (es : List Event) (left : Option (List ℕ)) →
    left ≡ Some script → IsScriptBy timing script es → timed timing (option_map events left) ≡ Some es
told_events timing script es left told is =
    ap (λ (bytes : Option (List ℕ)). timed timing (option_map events bytes)) told ∙ (fixes_events timing script es).0 is
