use Rattle.std.proofs.Common.{◌∷◌, ◌∙◌, ap, sym}
use Rattle.wh_version.specs.Times.{is_up_to, last_place}
use Rattle.wh_version.proofs.LastUpTo.{place_within}
use Rattle.wh_version.proofs.history.History.last_up_to.Goals as goal

pub version-requires : goal.version-requires
version-requires c =
    let h = c.args.self.now in
    let test = is_up_to c.args.time c.args.limit in
    place_within test (h.first ∷ h.later.items) c.in-Some.place
    (ap (λ ms. last_place test (h.first ∷ ms)) (sym c.deref.ensures.value) ∙ sym c.last_place.ensures ∙ c.in-Some.is)
