use Rattle.wh_shell.proofs.EventLemmas.{fixes_events}
use Rattle.wh_shell.proofs.laws.script_fixes_events.Goals as goal

pub returns : goal.returns
returns c = fixes_events
