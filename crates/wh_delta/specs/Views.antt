-- What of sources is held, as the code has it.
use Rattle.std.specs.Prelude.{List, [], ◌++◌, map}
use Rattle.wh_filed.specs.Filed.{filed_at, loaded_of}
use Rattle.wh_meaning.specs.Bag.{bag_of}
use Rattle.wh_exec.specs.Source.{parts_bag}
use Rattle.wh_delta.specs.Moved.{View}
use Rattle.wh_delta.specs.declared.moved.Held.{Held}
use Rattle.wh_delta.specs.declared.moved.Held.TheVariants.{Parts, Loaded, Rows}

abbrev pub view_held : Held → View
view_held (Parts filed made) = (filed_at filed.items, parts_bag made.now)
view_held (Loaded p) = ([], parts_bag (loaded_of p.loaded.now ++ p.made.now))
view_held (Rows rows) = ([], bag_of rows.now)

abbrev pub views_held : List Held → List View
views_held held = map view_held held
