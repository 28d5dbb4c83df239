use Rattle.std.proofs.Common.{◌≡◌, drop}
use Rattle.wh_machine.specs.Sessions.{first_locked}
use Rattle.wh_txn.specs.View.{sessions_of}
use Rattle.wh_decide.proofs.reading.first_among.Given as goal

abbrev pub invariant-loop-id : goal.invariant-loop-id
invariant-loop-id l =
    first_locked (sessions_of l.sight.sessions.now) l.sight.session (drop l.id-index l.ids)
    ≡ first_locked (sessions_of l.sight.sessions.now) l.sight.session l.ids
