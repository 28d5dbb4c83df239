use Rattle.wh_record.proofs.WritingLaws.{offset_written}
use Rattle.wh_record.proofs.encoding.write_offset.Goals as goal

pub returns-clause-written : goal.returns-clause-written
returns-clause-written c =
    offset_written c.args.id c.args.offset c.args.out.now c.write_u32.new.out c.write_u64.new.out
    c.in_ok-write_u32.ensures.ok c.in_ok-write_u64.ensures.ok
