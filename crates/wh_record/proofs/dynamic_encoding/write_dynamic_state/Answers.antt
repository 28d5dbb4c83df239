use Rattle.wh_dynamic.specs.View.{state_of}
use Rattle.wh_record.proofs.WritingLaws.{dynamic_state_written}
use Rattle.wh_record.proofs.dynamic_encoding.write_dynamic_state.Goals as goal

pub returns-clause-written : goal.returns-clause-written
returns-clause-written c =
    dynamic_state_written c.args.id (state_of c.args.state) c.args.out.now c.write_u32.new.out c.write_u32-2.new.out
    c.push.new.self c.write_u32-3.new.out c.write_u64.new.out c.write_u64-2.new.out
    c.in_ok-write_u32.ensures.ok c.in_ok-write_u32-2.ensures.ok
    (rw (← c.byte_of_truth.ensures) c.in_ok-push.ensures.ok) c.in_ok-write_u32-3.ensures.ok
    c.in_ok-write_u64.ensures.ok c.in_ok-write_u64-2.ensures.ok
