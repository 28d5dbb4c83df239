use Rattle.std.proofs.Common.{take, drop, subst}
use Rattle.wh_version.specs.Arrivals.{IsArrival}
use Rattle.wh_filed.specs.Filed.{partitions_at}
use Rattle.wh_version.specs.Lasting.{version_by, versions_by}
use Rattle.wh_version.specs.History.{versions_of, marked_of}
use Rattle.wh_version.proofs.Starts.{first_empty, arrival_behind}
use Rattle.wh_version.proofs.history.History.arrivals.Goals as goal

pub returns-clause-came : goal.returns-clause-came
unfolding versions_of
returns-clause-came c =
    let h = c.args.self.now in
    let arrivals = c.in_ok-arrivals.arrivals in
    let came = partitions_at arrivals.came.items in
    arrival_behind (version_by h.kept.items 0 h.first) (first_empty h) h.starts_empty
    (versions_by h.kept.items 1 h.later.items) c.args.place arrivals.stamp came
    (subst (λ place. IsArrival arrivals.stamp came (take place (marked_of h)) (drop place (marked_of h)))
    c.mark_place.ensures.place c.in_ok-arrivals.ensures.came)
