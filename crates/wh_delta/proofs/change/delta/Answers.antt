use Rattle.wh_filed.specs.Fetching.{IsShownBy, IsCovered}
use Rattle.wh_algebra.specs.View.{query_of}
use Rattle.wh_exec.specs.Source.{instance_in}
use Rattle.wh_maintenance.proofs.Turns.{net_apart}
use Rattle.wh_delta.specs.Moves.{change_of}
use Rattle.wh_delta.proofs.MovedLaws.{moved_turns, moved_filed}
use Rattle.wh_delta.proofs.FoundLaws.{held_views, net_found, none_found}
use Rattle.wh_delta.proofs.AskedLaws.{between_moved}
use Rattle.wh_delta.proofs.change.delta.Goals as goal

pub moves_of-requires-clause-comes : goal.moves_of-requires-clause-comes
moves_of-requires-clause-comes g c κs bounds =
    moved_filed (IsCovered (g.F.Fetch.covers c.args.fetch.now)) c.deref-3.result.now _
    (held_views _ _ _ _ _ c.deref-3.ensures.value c.in_ok-comes.ensures c.deref.ensures.value c.in_ok-came.ensures)
    c.requires.comes

pub moves_of-requires-clause-goes : goal.moves_of-requires-clause-goes
moves_of-requires-clause-goes g c κs bounds =
    moved_filed (IsCovered (g.F.Fetch.covers c.args.fetch.now)) c.deref-4.result.now _
    (held_views _ _ _ _ _ c.deref-4.ensures.value c.in_ok-goes.ensures c.deref-2.ensures.value c.in_ok-gone.ensures)
    c.requires.goes

pub returns-in_err-moves-clause-sound : goal.returns-in_err-moves-clause-sound
returns-in_err-moves-clause-sound g c = λ all.
    let came = held_views _ _ _ _ _ c.deref-3.ensures.value c.in_ok-comes.ensures c.deref.ensures.value
    c.in_ok-came.ensures in
    let gone = held_views _ _ _ _ _ c.deref-4.ensures.value c.in_ok-goes.ensures c.deref-2.ensures.value
    c.in_ok-gone.ensures in
    c.moves_of.ensures.sound
    (moved_filed (IsShownBy (g.F.Fetch.contents c.args.fetch.now)) c.deref-3.result.now _ came all.comes)
    (moved_filed (IsShownBy (g.F.Fetch.contents c.args.fetch.now)) c.deref-4.result.now _ gone all.goes)
    all.stays

pub returns-in_default-clause-sound : goal.returns-in_default-clause-sound
returns-in_default-clause-sound g c = λ all.
    let came = held_views _ _ _ _ _ c.deref-3.ensures.value c.in_ok-comes.ensures c.deref.ensures.value
    c.in_ok-came.ensures in
    let gone = held_views _ _ _ _ _ c.deref-4.ensures.value c.in_ok-goes.ensures c.deref-2.ensures.value
    c.in_ok-gone.ensures in
    c.moves_of.ensures.sound
    (moved_filed (IsShownBy (g.F.Fetch.contents c.args.fetch.now)) c.deref-3.result.now _ came all.comes)
    (moved_filed (IsShownBy (g.F.Fetch.contents c.args.fetch.now)) c.deref-4.result.now _ gone all.goes)
    all.stays

pub returns-in_err-net-clause-sound : goal.returns-in_err-net-clause-sound
returns-in_err-net-clause-sound g c = λ all.
    let came = held_views _ _ _ _ _ c.deref-3.ensures.value c.in_ok-comes.ensures c.deref.ensures.value
    c.in_ok-came.ensures in
    let gone = held_views _ _ _ _ _ c.deref-4.ensures.value c.in_ok-goes.ensures c.deref-2.ensures.value
    c.in_ok-gone.ensures in
    c.moves_of.ensures.sound
    (moved_filed (IsShownBy (g.F.Fetch.contents c.args.fetch.now)) c.deref-3.result.now _ came all.comes)
    (moved_filed (IsShownBy (g.F.Fetch.contents c.args.fetch.now)) c.deref-4.result.now _ gone all.goes)
    all.stays

pub returns-clause-sound : goal.returns-clause-sound
returns-clause-sound g c = λ all.
    let came = held_views _ _ _ _ _ c.deref-3.ensures.value c.in_ok-comes.ensures c.deref.ensures.value
    c.in_ok-came.ensures in
    let gone = held_views _ _ _ _ _ c.deref-4.ensures.value c.in_ok-goes.ensures c.deref-2.ensures.value
    c.in_ok-gone.ensures in
    c.moves_of.ensures.sound
    (moved_filed (IsShownBy (g.F.Fetch.contents c.args.fetch.now)) c.deref-3.result.now _ came all.comes)
    (moved_filed (IsShownBy (g.F.Fetch.contents c.args.fetch.now)) c.deref-4.result.now _ gone all.goes)
    all.stays

pub returns-in_default-clause-change : goal.returns-in_default-clause-change
returns-in_default-clause-change g c = λ all numbered was is.
    let came = held_views _ _ _ _ _ c.deref-3.ensures.value c.in_ok-comes.ensures c.deref.ensures.value
    c.in_ok-came.ensures in
    let gone = held_views _ _ _ _ _ c.deref-4.ensures.value c.in_ok-goes.ensures c.deref-2.ensures.value
    c.in_ok-gone.ensures in
    none_found (query_of c.args.query.now) _ ((rw c.in_default.is at c.in_ok-moves.ensures.change)
    (moved_filed (IsShownBy (g.F.Fetch.contents c.args.fetch.now)) c.deref-3.result.now _ came all.comes)
    (moved_filed (IsShownBy (g.F.Fetch.contents c.args.fetch.now)) c.deref-4.result.now _ gone all.goes)
    all.stays) (instance_in c.args.new.now)
    (moved_turns c.args.old.now c.args.new.now c.deref-3.result.now c.deref-4.result.now numbered came gone) was is

pub returns-clause-change : goal.returns-clause-change
returns-clause-change g c = λ all numbered was is.
    let came = held_views _ _ _ _ _ c.deref-3.ensures.value c.in_ok-comes.ensures c.deref.ensures.value
    c.in_ok-came.ensures in
    let gone = held_views _ _ _ _ _ c.deref-4.ensures.value c.in_ok-goes.ensures c.deref-2.ensures.value
    c.in_ok-gone.ensures in
    net_found (query_of c.args.query.now) _ (change_of c.in-Some.moves) c.in_ok-net.net
    ((rw c.in-Some.is at c.in_ok-moves.ensures.change)
    (moved_filed (IsShownBy (g.F.Fetch.contents c.args.fetch.now)) c.deref-3.result.now _ came all.comes)
    (moved_filed (IsShownBy (g.F.Fetch.contents c.args.fetch.now)) c.deref-4.result.now _ gone all.goes)
    all.stays) c.in_ok-net.ensures (instance_in c.args.new.now)
    (moved_turns c.args.old.now c.args.new.now c.deref-3.result.now c.deref-4.result.now numbered came gone) was is

pub returns-clause-apart : goal.returns-clause-apart
returns-clause-apart g c = net_apart _ _ _ _ c.in_ok-net.ensures

pub returns-in_default-clause-asks : goal.returns-in_default-clause-asks
returns-in_default-clause-asks g c = λ linear.
    let came = held_views _ _ _ _ _ c.deref-3.ensures.value c.in_ok-comes.ensures c.deref.ensures.value
    c.in_ok-came.ensures in
    let gone = held_views _ _ _ _ _ c.deref-4.ensures.value c.in_ok-goes.ensures c.deref-2.ensures.value
    c.in_ok-gone.ensures in
    between_moved (query_of c.args.query.now) c.args.old.now c.args.new.now c.deref-3.result.now c.deref-4.result.now
    _ _ came gone (c.in_ok-moves.ensures.asks linear)

pub returns-clause-asks : goal.returns-clause-asks
returns-clause-asks g c = λ linear.
    let came = held_views _ _ _ _ _ c.deref-3.ensures.value c.in_ok-comes.ensures c.deref.ensures.value
    c.in_ok-came.ensures in
    let gone = held_views _ _ _ _ _ c.deref-4.ensures.value c.in_ok-goes.ensures c.deref-2.ensures.value
    c.in_ok-gone.ensures in
    between_moved (query_of c.args.query.now) c.args.old.now c.args.new.now c.deref-3.result.now c.deref-4.result.now
    _ _ came gone (c.in_ok-moves.ensures.asks linear)
