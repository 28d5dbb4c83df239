use Rattle.std.proofs.Common.{List, ap, sym, ◌∙◌}
use Rattle.wh_catalog.specs.declared.object.StoredObject.{StoredObject}
use Rattle.wh_catalog.specs.Object.{live_in}
use Rattle.wh_catalog.specs.Catalog.{stored_of, kept_of}
use Rattle.wh_catalog.proofs.Dropped.{counted}
use Rattle.wh_catalog.proofs.catalog.Catalog.live_count.Goals as goal

pub returns-clause-count : goal.returns-clause-count
unfolding stored_of kept_of
returns-clause-count c =
    c.count_live.ensures
    ∙ ap (λ (l : List StoredObject). live_in l) c.deref.ensures.value
    ∙ sym (counted c.args.self.now.objects.items)
