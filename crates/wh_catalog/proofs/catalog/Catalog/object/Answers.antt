use Rattle.std.proofs.Common.{sym}
use Rattle.wh_catalog.specs.Catalog.{stored_of, kept_of}
use Rattle.wh_catalog.proofs.Places.{stands, kept}
use Rattle.wh_catalog.proofs.FiledLaws.{object_among}
use Rattle.wh_catalog.proofs.catalog.Catalog.object.Goals as goal

pub returns-clause-object : goal.returns-clause-object
unfolding stored_of kept_of
returns-clause-object c = sym (stands c.in_ok-place.ensures.found c.index-object.ensures)

pub returns-clause-kept : goal.returns-clause-kept
unfolding kept_of
returns-clause-kept c = sym (kept c.in_ok-place.ensures.found c.index-object.ensures)

pub returns-clause-among : goal.returns-clause-among
unfolding kept_of
returns-clause-among c = object_among c.in_ok-place.ensures.found c.index-object.ensures
