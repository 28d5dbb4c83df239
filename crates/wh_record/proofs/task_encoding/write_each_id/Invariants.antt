use Rattle.std.proofs.Common.{◌≡◌, ◌<◌, ◌^◌, ◌++◌, take}
use Rattle.std.specs.List.{flat_map, AllByRecursion}
use Rattle.std.specs.Int.{w32, to_be_bytes}
use Rattle.wh_record.proofs.task_encoding.write_each_id.Given as goal

-- the ids so far are written, and have 32 bits
abbrev pub invariant-loop-id : goal.invariant-loop-id
invariant-loop-id l = record {
  written : l.out ≡ l.fn.out ++ flat_map (to_be_bytes w32) (take l.id-index l.ids);
  wide : AllByRecursion (λ id. id < 2 ^ 32) (take l.id-index l.ids);
}
