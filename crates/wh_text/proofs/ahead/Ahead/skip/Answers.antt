use Rattle.std.proofs.Common.{sym, ap}
use Rattle.wh_text.proofs.AheadLaws.{used_ahead}
use Rattle.wh_text.proofs.ahead.Ahead.skip.Goals as goal

pub returns-clause-bytes : goal.returns-clause-bytes
returns-clause-bytes c =
    let here = c.self.inside in
    used_ahead here.buffer.items c.args.self.now.bytes here.at here.end c.args.count
    (sym (ap (λ a. a.bytes) c.self.view_is)) c.requires
