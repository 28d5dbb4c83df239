-- The bytes of what a version does to groups.
--     standing_size, nothing_size     of a group, and of one that is removed
--     entry_size                      of a key and its group
--     groups_size                     of a change that sets groups
use Rattle.std.proofs.Common.{◌≡◌, ℕ, ◌+◌, ◌*◌, ◌<◌, ◌≤◌, List, [], ◌∷◌, ◌++◌, length, replicate, refl, ap, ◌∙◌, arith}
use Rattle.std.proofs.Common.{Option, Some, None, length-append}
use Rattle.std.specs.List.{flat_map}
use Rattle.std.specs.Int.{w32, w64, to_be_bytes, cast_unsigned}
use Rattle.std.proofs.lemmas.List.{length-replicate}
use Rattle.wh_meaning.specs.Query.{Total}
use Rattle.wh_frame.specs.Spelling.{value_bytes, list_bytes}
use Rattle.wh_filed.proofs.FilingLaws.{size_of_all}
use Rattle.wh_maintenance.specs.Standing.{Standing, nothing_yet}
use Rattle.wh_maintenance.specs.Entries.{GroupEntry}
use Rattle.wh_state.specs.Dynamic.{GroupsChange}
use Rattle.wh_state.specs.Commit.{SetsGroups}
use Rattle.wh_state.specs.Spelling.{total_bytes, standing_bytes, entry_bytes, groups_bytes, change_bytes}
use Rattle.wh_record.specs.Places.{change_size}

total_size : (t : Total) → length (total_bytes t) ≡ 16
total_size t =
    omega (arith, length-append (to_be_bytes w64 (cast_unsigned w64 t.sum)) (to_be_bytes w64 t.values))

totals_size : (ts : List Total) → length (flat_map total_bytes ts) ≡ 16 * length ts
totals_size [] = refl
totals_size (t ∷ ts) = omega (arith, size_of_all total_bytes t ts, total_size t, totals_size ts)

pub standing_size : (calls : ℕ) (s : Standing)
    → length (standing_bytes calls (Some s)) ≡ 8 + 16 * length s.totals
unfolding standing_bytes
standing_size calls s =
    omega (arith, length-append (to_be_bytes w64 s.rows) (flat_map total_bytes s.totals), totals_size s.totals)

pub nothing_size : (calls : ℕ) → length (standing_bytes calls None) ≡ 8 + 16 * calls
unfolding standing_bytes
nothing_size calls =
    let none = replicate calls nothing_yet in
    omega (
      arith,
      length-append (to_be_bytes w64 0) (flat_map total_bytes none),
      totals_size none,
      length-replicate calls nothing_yet,
    )

pub entry_size : (calls : ℕ) (e : GroupEntry)
    → length (entry_bytes calls e) ≡ length (flat_map value_bytes e.key) + length (standing_bytes calls e.group)
unfolding entry_bytes
entry_size calls e = length-append (flat_map value_bytes e.key) (standing_bytes calls e.group)

-- a tag, an id, three counts and the entries
pub groups_size : (id : ℕ) (c : GroupsChange)
    → change_size (SetsGroups id c) ≡ 17 + length (flat_map (entry_bytes c.calls) c.entries)
unfolding change_bytes groups_bytes
groups_size id c =
    let entries = flat_map (entry_bytes c.calls) c.entries in
    let counted = to_be_bytes w32 (length c.entries) ++ entries in
    omega (
      arith,
      length-append (to_be_bytes w32 id) (to_be_bytes w32 c.keys ++ to_be_bytes w32 c.calls ++ counted),
      length-append (to_be_bytes w32 c.keys) (to_be_bytes w32 c.calls ++ counted),
      length-append (to_be_bytes w32 c.calls) counted,
      length-append (to_be_bytes w32 (length c.entries)) entries,
    )
