use Rattle.std.proofs.Common.{◌≡◌, ◌+◌, ◌∷◌, [], ◌∙◌, ap, sym, length, get_or, Contains, Some, arith}
use Rattle.wh_filed.specs.Filed.{filed_at}
use Rattle.wh_state.specs.State.{content_in}
use Rattle.wh_version.specs.Lasting.{version_by, versions_by}
use Rattle.wh_version.specs.History.{versions_of, filed_of}
use Rattle.wh_version.specs.Version.{filed_by}
use Rattle.wh_version.proofs.Among.{each_held}
use Rattle.wh_version.proofs.Last.{last_version}
use Rattle.wh_version.proofs.Starts.{first_empty, standing_behind}
use Rattle.wh_version.proofs.history.History.standing.Goals as goal

pub returns-clause-standing : goal.returns-clause-standing
unfolding versions_of
returns-clause-standing c =
    let h = c.args.self.now in
    let sized = h.later.ok.0 in
    let place : 0 + length h.later.items ≡ c.len.result = omega (arith, c.len.ensures) in
    let same : length h.later.items ≡ c.len.result = omega (arith, c.len.ensures) in
    c.in_ok-standing.ensures.content
    ∙ ap (λ v. v.content) c.version-last.ensures.version
    ∙ ap (content_in []) (sym (last_version h.kept.items 0 h.first h.later.items
    ∙ (λ i. Some (version_by h.kept.items (place i) (get_or (h.first ∷ h.later.items) (same i) h.first)))))
    ∙ sym (standing_behind (version_by h.kept.items 0 h.first) (first_empty h) h.starts_empty
    (versions_by h.kept.items 1 h.later.items))

pub returns-clause-among : goal.returns-clause-among
returns-clause-among c =
    each_held (Contains (filed_of c.args.self.now)) (filed_at c.in_ok-standing.standing.items)
    (filed_by c.version-last.result) c.in_ok-standing.ensures.among c.version-last.ensures.among
