use Rattle.std.proofs.Common.{◌≡◌, ◌<◌, ◌^◌, ◌++◌, List, length, rules, subst}
use Rattle.std.specs.List.{AllByRecursion}
use Rattle.std.proofs.lemmas.List.{length-map}
use Rattle.wh_frame.specs.Spelling.{list_bytes}
use Rattle.wh_state.specs.Commit.{TextChange, as_text}
use Rattle.wh_state.specs.Spelling.{change_bytes, IsChange}
use Rattle.wh_record.proofs.WritingLaws.{commit_written, as_written}
use Rattle.wh_record.specs.View.{commit_of}
use Rattle.wh_record.proofs.encoding.write_commit.Goals as goal

pub returns-clause-written : goal.returns-clause-written
returns-clause-written c =
    let changes = c.args.commit.now.changes.items in
    commit_written (as_text (commit_of c.args.commit.now)) c.args.out.now c.write_u64.new.out c.write_changes.new.out
    c.in_ok-write_u64.ensures.ok
    (subst (λ (texts : List TextChange). c.write_changes.new.out ≡ c.write_u64.new.out ++ list_bytes change_bytes texts)
    (as_written changes) (rw (← c.deref.ensures.value) c.in_ok-write_changes.ensures.written))

pub returns-clause-spelled : goal.returns-clause-spelled
returns-clause-spelled c =
    let changes = c.args.commit.now.changes.items in
    record {
      stamp = search rules;
      few = subst (λ (texts : List TextChange). length texts < 2 ^ 32) (as_written changes)
          (rw length-map (rw (← c.deref.ensures.value) c.in_ok-write_changes.ensures.fits));
      changes = subst (AllByRecursion IsChange) (as_written changes)
          (rw (← c.deref.ensures.value) c.in_ok-write_changes.ensures.spelled);
    }
