use Rattle.std.specs.Int.{w32, w64, to_be_bytes}
use Rattle.wh_record.proofs.WritingLaws.{four_written}
use Rattle.wh_record.proofs.encoding.write_version_head.Goals as goal

pub returns-clause-written : goal.returns-clause-written
returns-clause-written c =
    let version = c.args.version.now in
    four_written (to_be_bytes w32 version.id) (to_be_bytes w64 version.data_timestamp)
    (to_be_bytes w64 version.next_row) (to_be_bytes w32 version.width)
    c.args.out.now c.write_u32.new.out c.write_u64.new.out c.write_u64-2.new.out c.write_u32-2.new.out
    c.in_ok-write_u32.ensures.ok c.in_ok-write_u64.ensures.ok c.in_ok-write_u64-2.ensures.ok
    c.in_ok-write_u32-2.ensures.ok
