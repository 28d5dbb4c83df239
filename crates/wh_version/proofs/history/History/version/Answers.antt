use Rattle.std.proofs.Common.{◌∷◌, ap, subst, length, take, Contains, arith}
use Rattle.std.specs.List.{AllByRecursion}
use Rattle.std.proofs.lemmas.List.{length-take}
use Rattle.wh_version.specs.Lasting.{filed_in}
use Rattle.wh_version.proofs.Among.{front_held}
use Rattle.wh_version.proofs.LastUpTo.{mark_within}
use Rattle.wh_version.proofs.history.History.version.Goals as goal

pub slice_bounds-result-end : goal.slice_bounds-result-end
slice_bounds-result-end c =
    let h = c.args.self.now in
    let few = mark_within 0 (h.first ∷ h.later.items) (length h.kept.items) c.args.place h.first h.marks c.requires in
    let front = length-take c.mark-mark.result.partitions c.deref.result.now in
    omega (arith, few, front, ap (λ m. m.partitions) c.mark-mark.ensures, ap length c.deref.ensures.value)

pub returns-clause-among : goal.returns-clause-among
returns-clause-among c =
    let many = c.mark-mark.result.partitions in
    subst (λ ks. AllByRecursion (Contains (filed_in ks)) (filed_in (take many c.deref.result.now)))
    c.deref.ensures.value (front_held many c.deref.result.now)
