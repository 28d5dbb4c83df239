use Rattle.std.proofs.Common.{◌∙◌, ap, sym, filter}
use Rattle.wh_version.specs.Lasting.{partitions_in, is_standing}
use Rattle.wh_version.proofs.Last.{standing_now}
use Rattle.wh_version.proofs.history.History.kept.Goals as goal

pub returns-clause-standing : goal.returns-clause-standing
returns-clause-standing c =
    ap (λ ks. partitions_in (filter is_standing ks)) c.as_slice.ensures.value ∙ sym (standing_now c.args.self.now)
