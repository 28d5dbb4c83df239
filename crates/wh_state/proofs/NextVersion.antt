-- What is written for edits of a table means its next version.
--     edited_meant                a table with its next version
--     edited_object_meant, edited_dynamic_meant     the object of a table or of a dynamic table
use Rattle.std.proofs.Common.{◌≡◌, ℕ, ◌+◌, List, [], ◌∷◌, ◌++◌, length, map, refl, sym, ap, ◌∙◌}
use Rattle.std.proofs.lemmas.List.{map-append}
use Rattle.wh_state.specs.State.{Rows, Contents, nothing_held, Version, Table, TableKind, DynamicKind, last_content}
use Rattle.wh_state.specs.State.{version_for}
use Rattle.wh_state.specs.Dynamic.{Dynamic}
use Rattle.wh_state.specs.Edits.{Edits, numbers_gone, partitions_made, without, contents_after}
use Rattle.wh_state.specs.Act.{edited_table, edited_object}
use Rattle.wh_state.specs.Stored.{StoredTable, StoredObject, standing, contents_meant, version_meant, table_meant}
use Rattle.wh_state.specs.Stored.{object_meant}
use Rattle.wh_state.specs.Commit.{pushed, pushed_object}
use Rattle.wh_state.specs.Orderly.{IsOrderly}
use Rattle.wh_state.specs.Written.{version_change}
use Rattle.wh_state.proofs.EditLaws.{edits_written}
use Rattle.wh_state.proofs.MeaningLaws.{last_content_meant}

contents_written : (e : Edits) (t : StoredTable) → IsOrderly (standing t)
    → contents_meant (without (numbers_gone e.rows (standing t)) (standing t)
    ++ partitions_made t.next_partition t.next_row e (standing t))
    ≡ contents_after t.next_partition t.next_row e (contents_meant (standing t))
contents_written e t orderly = ap (λ (rows : Rows). record {
  rows = rows;
  partitions = without (numbers_gone e.rows (standing t)) (standing t)
      ++ partitions_made t.next_partition t.next_row e (standing t);
}) (edits_written t.next_partition t.next_row e (standing t) orderly)

versions_written : (stamp moment id : ℕ) (e : Edits) (t : StoredTable) → IsOrderly (standing t)
    → map version_meant (pushed stamp (version_change moment id e t) t).versions
    ≡ map version_meant t.versions
    ++ version_for stamp moment (contents_after t.next_partition t.next_row e (contents_meant (standing t))) ∷ []
versions_written stamp moment id e t orderly =
    map-append version_meant t.versions _
    ∙ ap (λ (new : Contents). map version_meant t.versions ++ version_for stamp moment new ∷ [])
    (contents_written e t orderly)

-- a table with its next version, from what its last one holds
abbrev edited_from : ℕ → ℕ → Edits → Table → Contents → Table
edited_from stamp moment e t c = record t {
  next_row = t.next_row + length e.added;
  next_partition = t.next_partition + length (partitions_made t.next_partition t.next_row e c.partitions);
  versions = t.versions ++ version_for stamp moment (contents_after t.next_partition t.next_row e c) ∷ [];
}

edited_is : (stamp moment : ℕ) (e : Edits) (t : Table)
    → edited_table stamp moment e t ≡ edited_from stamp moment e t (last_content nothing_held t)
unfolding edited_table
edited_is stamp moment e t = refl

pub edited_meant : (stamp moment id : ℕ) (e : Edits) (t : StoredTable) → IsOrderly (standing t)
    → table_meant (pushed stamp (version_change moment id e t) t) ≡ edited_table stamp moment e (table_meant t)
edited_meant stamp moment id e t orderly =
    ap (λ (versions : List Version). record (edited_from stamp moment e (table_meant t)
    (contents_meant (standing t))) { versions = versions })
    (versions_written stamp moment id e t orderly)
    ∙ ap (edited_from stamp moment e (table_meant t)) (sym (last_content_meant t))
    ∙ sym (edited_is stamp moment e (table_meant t))

pub edited_object_meant : (stamp moment id : ℕ) (e : Edits) (o : StoredObject) (t : StoredTable) → o.kind ≡ TableKind t
    → IsOrderly (standing t)
    → object_meant (pushed_object stamp (version_change moment id e t) o)
    ≡ edited_object stamp moment e (object_meant o)
edited_object_meant stamp moment id e o t is orderly =
    let same = edited_meant stamp moment id e t orderly in
    rw (is, same)

pub edited_dynamic_meant : (stamp moment id : ℕ) (e : Edits) (o : StoredObject) (d : Dynamic) (t : StoredTable)
    → o.kind ≡ DynamicKind d t → IsOrderly (standing t)
    → object_meant (pushed_object stamp (version_change moment id e t) o)
    ≡ edited_object stamp moment e (object_meant o)
edited_dynamic_meant stamp moment id e o d t is orderly =
    let same = edited_meant stamp moment id e t orderly in
    rw (is, same)
