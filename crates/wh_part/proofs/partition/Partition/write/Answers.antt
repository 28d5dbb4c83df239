use Rattle.std.proofs.Common.{◌∙◌, ap, sym, length}
use Rattle.std.specs.List.{flat_map}
use Rattle.std.proofs.lemmas.List.{length-map}
use Rattle.wh_frame.specs.Spelling.{row_bytes}
use Rattle.wh_part.specs.View.{numbered_of}
use Rattle.wh_part.proofs.WritingLaws.{partition_written}
use Rattle.wh_part.proofs.partition.Partition.write.Goals as goal

pub returns-clause-written : goal.returns-clause-written
returns-clause-written c =
    partition_written c.args.self.now (length c.rows-rows.result.now) c.args.out.now c.write_u64.new.out
    c.write_u32.new.out c.write_rows.new.out _
    (rw (← c.number.ensures) c.in_ok-write_u64.ensures.ok) c.in_ok-write_u32.ensures.ok
    c.in_ok-write_rows.ensures.written
    (sym (length-map c.rows-rows.result.now numbered_of) ∙ ap length c.rows-rows.ensures.rows)
    (ap (flat_map row_bytes) c.rows-rows.ensures.rows)
