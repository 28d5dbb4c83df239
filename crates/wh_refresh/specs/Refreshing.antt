-- What a refresh comes to, as code has it.
--     besides           what is asked for besides: a statement is refused where a table is suspended
--     RefreshesAs       a refusal, or the lines and the changes that say the acts of a refresh
--     AreRead           the texts of the changes spell what they stand for
use Rattle.std.specs.Prelude.{◌≡◌, ℕ, List, map, Option, None}
use Rattle.std.specs.List.{AllByRecursion}
use Rattle.wh_reply.specs.Reply.{Refusal, Refreshed}
use Rattle.wh_reply.specs.View.{refusal_view, refreshed_view}
use Rattle.wh_state.specs.State.{Object}
use Rattle.wh_state.specs.Act.{Act}
use Rattle.wh_state.specs.Stored.{StoredObject}
use Rattle.wh_state.specs.Commit.{Change}
use Rattle.wh_state.specs.Spelling.{IsUnderstood}
use Rattle.wh_state.specs.Written.{written}
use Rattle.wh_machine.specs.Refresh as machine
use Rattle.wh_machine.specs.Refresh.{with_upstream}
use Rattle.wh_machine.specs.Dynamics.{first_suspended}
use Rattle.wh_record.specs.View.{change_of}
use Rattle.wh_refresh.specs.declared.refreshing.Asked.{Asked}
use Rattle.wh_refresh.specs.declared.refreshing.Asked.TheVariants as asked
use Rattle.wh_refresh.specs.declared.refreshing.Refreshing.{Refreshing}
use Rattle.wh_refresh.specs.declared.refreshing.Refreshing.TheVariants as code

abbrev pub besides : Asked → List Object → ℕ → Option Refusal
besides asked.ByStatement objects id = first_suspended objects (with_upstream objects id)
besides asked.BySchedule objects id = None

pub record BringsAs (stamp : ℕ) (stored : List StoredObject) (lines : List Refreshed) (changes : List Change)
    (outcome : machine.Refreshing) : Type 0 where
  pub acts : List Act
  pub is : outcome ≡ machine.Brings lines acts
  pub written : changes ≡ written stamp stored acts

abbrev pub RefreshesAs : ℕ → List StoredObject → Refreshing → machine.Refreshing → Type 0
RefreshesAs stamp stored (code.Fails why) outcome = outcome ≡ machine.Fails (refusal_view why)
RefreshesAs stamp stored (code.Brings lines changes) outcome =
    BringsAs stamp stored (map refreshed_view lines.items) (map change_of changes.items) outcome

abbrev pub AreRead : Refreshing → Type 0
AreRead (code.Fails why) = Unit {0}
AreRead (code.Brings lines changes) = AllByRecursion IsUnderstood (map change_of changes.items)
