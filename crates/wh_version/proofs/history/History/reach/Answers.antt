use Rattle.std.proofs.Common.{◌∷◌, ◌∙◌, ap, sym}
use Rattle.wh_version.specs.declared.times.Time.TheVariants.{Data}
use Rattle.wh_version.specs.Times.{is_up_to, last_place}
use Rattle.wh_version.proofs.LastUpTo.{place_within}
use Rattle.wh_version.proofs.history.History.reach.Goals as goal

pub mark-mark-requires : goal.mark-mark-requires
mark-mark-requires c =
    let h = c.args.self.now in
    let test = is_up_to Data c.args.timestamp in
    place_within test (h.first ∷ h.later.items) c.in-Some.place
    (ap (λ ms. last_place test (h.first ∷ ms)) (sym c.deref.ensures.value) ∙ sym c.last_place.ensures ∙ c.in-Some.is)
