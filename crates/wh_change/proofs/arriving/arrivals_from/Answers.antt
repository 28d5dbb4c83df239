use Rattle.std.proofs.Common.{◌≡◌, suc, ◌+◌, arith}
use Rattle.wh_table.specs.Table.{table_of, filed_of}
use Rattle.wh_change.proofs.CameLaws.{came_pushed, among_pushed}
use Rattle.wh_change.proofs.arriving.arrivals_from.Goals as goal

pub loop-place-preserved : goal.loop-place-preserved
loop-place-preserved c =
    let at = c.loop-place in
    let next : suc at.place ≡ at.place + 1 = omega arith in
    let one = c.in_ok-arrivals in
    record {
      came = came_pushed c.args.first at.place (at.place + 1) at.found.items c.push.new.self.items one.arrivals
          (table_of c.args.table.now).versions next c.in_ok-push.ensures.items at.invariant.came
          (record { apart = one.ensures.apart; arrivals = one.ensures.came });
      among = among_pushed (filed_of c.args.table.now) at.found.items c.push.new.self.items one.arrivals
          c.in_ok-push.ensures.items at.invariant.among one.ensures.among;
    }
