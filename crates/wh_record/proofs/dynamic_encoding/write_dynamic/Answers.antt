use Rattle.wh_state.specs.Commit.{dynamic_as_text}
use Rattle.wh_record.specs.View.{dynamic_change_of}
use Rattle.wh_record.proofs.WritingLaws.{dynamic_written}
use Rattle.wh_record.proofs.dynamic_encoding.write_dynamic.Goals as goal

pub returns-clause-written : goal.returns-clause-written
returns-clause-written c =
    dynamic_written (dynamic_as_text (dynamic_change_of c.args.table.now)) c.args.out.now c.write_u32.new.out
    c.write_text.new.out c.write_u32-2.new.out c.push.new.self c.write_text-2.new.out c.write_sources.new.out
    c.write_columns.new.out
    c.in_ok-write_u32.ensures.ok c.in_ok-write_text.ensures.written c.in_ok-write_u32-2.ensures.ok
    (rw (← c.byte_of_mode.ensures) c.in_ok-push.ensures.ok) c.in_ok-write_text-2.ensures.written
    (rw (← c.deref.ensures.value) c.in_ok-write_sources.ensures.written)
    (rw (← c.deref-2.ensures.value) c.in_ok-write_columns.ensures.written)
