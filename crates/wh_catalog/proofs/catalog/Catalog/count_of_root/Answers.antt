use Rattle.std.proofs.Common.{List, ap, sym, ◌∙◌}
use Rattle.std.specs.Prelude.{count_by, nat_eq}
use Rattle.wh_state.specs.Commit.{is_member}
use Rattle.wh_catalog.specs.declared.object.StoredObject.{StoredObject}
use Rattle.wh_catalog.specs.Undoable.{object_in}
use Rattle.wh_catalog.specs.Object.{kept_object}
use Rattle.wh_catalog.specs.Catalog.{kept_of}
use Rattle.wh_catalog.proofs.Each.{counted_by}
use Rattle.wh_catalog.proofs.catalog.Catalog.count_of_root.Goals as goal

pub returns : goal.returns
unfolding kept_of
returns c =
    c.count_of_root.ensures
    ∙ ap (λ (l : List StoredObject). count_by (λ o. is_member (λ t. nat_eq t.root c.args.root) (object_in (kept_object o))) l)
    c.deref.ensures.value
    ∙ sym (counted_by (is_member (λ t. nat_eq t.root c.args.root)) c.args.self.now.objects.items)
