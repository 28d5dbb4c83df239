use Rattle.std.proofs.Common.{◌∙◌, ◌∷◌, ap, sym, Some, length, get_or, option_map, arith}
use Rattle.wh_version.specs.History.{versions_of}
use Rattle.wh_version.specs.Lasting.{version_by, versions_by}
use Rattle.wh_version.proofs.Last.{timestamp_of}
use Rattle.wh_version.proofs.Starts.{last_behind}
use Rattle.wh_version.proofs.history.History.last_timestamp.Goals as goal

pub returns : goal.returns
unfolding versions_of
returns c =
    let h = c.args.self.now in
    ap (λ m. Some m.data_timestamp) c.last_mark.ensures
    ∙ ap (λ ms. Some (get_or (h.first ∷ ms) (length ms) h.first).data_timestamp) c.deref.ensures.value
    ∙ sym (timestamp_of h.kept.items h.first h.later.items)
    ∙ ap (option_map (λ v. v.data_timestamp)) (sym (last_behind h.starts_empty (version_by h.kept.items 0 h.first)
    (versions_by h.kept.items 1 h.later.items) (omega (arith, c.count.ensures, c.if-count-eq0.false))))
