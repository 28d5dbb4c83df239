use Rattle.std.proofs.Common.{◌≡◌, ◌<◌, ◌^◌, ◌++◌, take}
use Rattle.std.specs.List.{flat_map, AllByRecursion}
use Rattle.std.specs.Int.{w64, to_be_bytes}
use Rattle.wh_record.proofs.encoding.write_each_number.Given as goal

-- the numbers so far are written, and have 64 bits
abbrev pub invariant-loop-number : goal.invariant-loop-number
invariant-loop-number l = record {
  written : l.out ≡ l.fn.out ++ flat_map (to_be_bytes w64) (take l.number-index l.numbers);
  wide : AllByRecursion (λ n. n < 2 ^ 64) (take l.number-index l.numbers);
}
