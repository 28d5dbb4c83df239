use Rattle.std.proofs.Common.{◌≡◌}
use Rattle.std.proofs.lemmas.Result.{on_ok_weaker}
use Rattle.wh_algebra.specs.View.{query_of}
use Rattle.std.proofs.lemmas.Result.{IfOk-weaker}
use Rattle.wh_filed.specs.Fetching.{IsShownBy, IsCovered, AllShownBy}
use Rattle.wh_exec.specs.Source.{instance_in, filed_in}
use Rattle.wh_delta.specs.Moved.{views_of, moved_of, moved_in}
use Rattle.wh_delta.proofs.MovedLaws.{moved_turns, moved_filed}
use Rattle.wh_delta.proofs.FoundLaws.{held_views}
use Rattle.wh_delta.proofs.AskedLaws.{between_moved}
use Rattle.wh_delta.proofs.kept.kept_delta_between.Given.{Over}
use Rattle.wh_delta.proofs.kept.kept_delta_between.Goals.{After-deref-4}
use Rattle.wh_delta.proofs.kept.kept_delta_between.Goals as goal

-- what came and what went are the sources of the change
module _ (g : Over) (c : After-deref-4 g) where
  came : views_of c.deref-3.result.now ≡ moved_of (views_of c.args.new.now) (views_of c.args.old.now)
  came = held_views _ _ _ _ _ c.deref-3.ensures.value c.in_ok-comes.ensures c.deref.ensures.value c.in_ok-came.ensures

  gone : views_of c.deref-4.result.now ≡ moved_of (views_of c.args.old.now) (views_of c.args.new.now)
  gone = held_views _ _ _ _ _ c.deref-4.ensures.value c.in_ok-goes.ensures c.deref-2.ensures.value c.in_ok-gone.ensures

  comes_shown : AllShownBy (g.F.Fetch.contents c.args.fetch.now) (moved_in c.args.new.now c.args.old.now)
      → AllShownBy (g.F.Fetch.contents c.args.fetch.now) (filed_in c.deref-3.result.now)
  comes_shown = moved_filed (IsShownBy (g.F.Fetch.contents c.args.fetch.now)) c.deref-3.result.now _ came

  goes_shown : AllShownBy (g.F.Fetch.contents c.args.fetch.now) (moved_in c.args.old.now c.args.new.now)
      → AllShownBy (g.F.Fetch.contents c.args.fetch.now) (filed_in c.deref-4.result.now)
  goes_shown = moved_filed (IsShownBy (g.F.Fetch.contents c.args.fetch.now)) c.deref-4.result.now _ gone

pub kept_delta-requires-clause-comes : goal.kept_delta-requires-clause-comes
kept_delta-requires-clause-comes g c κs bounds =
    let after = (goal.at.kept_delta-requires-clause-comes g c).After-deref-4 in
    moved_filed (IsCovered (g.F.Fetch.covers c.args.fetch.now)) c.deref-3.result.now _ (came g after) c.requires.comes

pub kept_delta-requires-clause-goes : goal.kept_delta-requires-clause-goes
kept_delta-requires-clause-goes g c κs bounds =
    let after = (goal.at.kept_delta-requires-clause-goes g c).After-deref-4 in
    moved_filed (IsCovered (g.F.Fetch.covers c.args.fetch.now)) c.deref-4.result.now _ (gone g after) c.requires.goes

pub returns-clause-change : goal.returns-clause-change
returns-clause-change g c = λ comes goes numbered.
    let after = (goal.at.returns-clause-change g c).After-deref-4 in
    IfOk-weaker c.kept_delta.result _ _ (λ found keeps. (keeps (instance_in c.args.old.now)).leads
    (instance_in c.args.new.now) (moved_turns c.args.old.now c.args.new.now c.deref-3.result.now c.deref-4.result.now
    numbered (came g after) (gone g after)))
    (c.kept_delta.ensures.change (comes_shown g after comes) (goes_shown g after goes))

pub returns-clause-sound : goal.returns-clause-sound
returns-clause-sound g c = λ comes goes.
    let after = (goal.at.returns-clause-sound g c).After-deref-4 in
    c.kept_delta.ensures.sound (comes_shown g after comes) (goes_shown g after goes)

pub returns-clause-asks : goal.returns-clause-asks
returns-clause-asks g c =
    let after = (goal.at.returns-clause-asks g c).After-deref-4 in
    on_ok_weaker c.kept_delta.result
    (between_moved (query_of c.args.query.now) c.args.old.now c.args.new.now c.deref-3.result.now c.deref-4.result.now
    _ _ (came g after) (gone g after))
    c.kept_delta.ensures.asks
