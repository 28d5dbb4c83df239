use Rattle.std.proofs.Common.{◌≡◌, ℕ, List, ◌+◌, ◌^◌, ◌<◌, length, Some, option_map, subst, ap, ◌∙◌, arith, rules}
use Rattle.wh_world.specs.Bytes.{framed}
use Rattle.wh_world.specs.Crash.{Only}
use Rattle.wh_frame.specs.File.{IsFileOf}
use Rattle.wh_journal.specs.Places.{with_record}
use Rattle.wh_journal.specs.Journal.{Lists, AddsPlace}
use Rattle.wh_journal.specs.Crash.{LeavesOnly}
use Rattle.wh_journal.specs.Torn.{TornRecord, HasWithOrWithout}
use Rattle.wh_journal.proofs.RecordLemmas.{lists_push, length-framed}
use Rattle.wh_journal.proofs.WriteLemmas.{is_file_with_record}
use Rattle.wh_journal.proofs.TornLemmas.{with_or_without, told_torn}
use Rattle.wh_journal.proofs.CrashLemmas.{weaker}
use Rattle.wh_journal.proofs.FrontLemmas.{told_same, told_with, told_torn as front_torn}
use Rattle.wh_journal.proofs.journal.Journal.append.Given.{Over}
use Rattle.wh_journal.proofs.journal.Journal.append.Goals.{After-write_record}
use Rattle.wh_journal.proofs.journal.Journal.append.Goals as goal

module _ (g : Over) (c : After-write_record g) where
  size : length c.as_slice-framed.result.now ≡ length c.args.frame.now + 9
  size = ap length c.as_slice-framed.ensures ∙ length-framed c.args.frame.now

  fits : length c.args.frame.now < 2 ^ 64
  fits = omega (arith, size)

  module _ (payloads : List (List ℕ)) (file : List ℕ) (is : IsFileOf payloads file)
      (lists : Lists payloads c.args.self.now) where
    -- where the write was cut short, the file has the record or not
    has : (image : List ℕ) → TornRecord c.args.self.now.end c.as_slice-framed.result.now file image
        → HasWithOrWithout payloads c.args.frame.now image
    has image torn =
        with_or_without payloads c.args.frame.now file image c.args.self.now.end is lists.end fits
        (subst (λ (l : List ℕ). TornRecord c.args.self.now.end l file image) c.as_slice-framed.ensures torn)

    -- nothing is written behind the record
    leaves : g.D.Disk.bytes c.args.disk.now ≡ Some file → Only file (g.D.Disk.may_leave c.args.disk.now)
        → LeavesOnly g.D.Disk.moment g.D.Disk.left_since c.args.disk.now c.write_record.new.disk
        (HasWithOrWithout payloads c.args.frame.now)
    leaves told only =
        weaker g.D.Disk.moment g.D.Disk.left_since c.args.disk.now c.write_record.new.disk
        (TornRecord c.args.self.now.end c.as_slice-framed.result.now file) (HasWithOrWithout payloads c.args.frame.now)
        has (c.write_record.ensures.any_moment file told only)

pub returns-in-Ok-clause-filed : goal.returns-in-Ok-clause-filed
returns-in-Ok-clause-filed g c = λ payloads file is.
    let j = c.args.self.now in
    let payload = c.args.frame.now in
    let at = (goal.at.returns-in-Ok-clause-filed g c).After-write_record in
    let size = size g at in
    let added : AddsPlace j c.list.new.self (length payload) = search rules in
    let written : g.D.Disk.bytes c.write_record.new.disk ≡ Some (with_record file j.end (framed payload)) =
    c.in-Ok.ensures.written ∙ ap (option_map (λ old. with_record old j.end c.as_slice-framed.result.now)) is.told
    ∙ ap (λ (l : List ℕ). Some (with_record file j.end l)) c.as_slice-framed.ensures in
    let whole = is_file_with_record payloads payload file j.end is.spelled is.lists.end (fits g at) in
    record {
      appended = (
        (with_record file j.end (framed payload), written, whole),
        lists_push payloads payload _ _ is.lists added,
      );
      torn = λ fault. absurd cc;
      any_moment = leaves g at payloads file is.spelled is.lists is.told;
    }

pub returns-in-Err-clause-filed : goal.returns-in-Err-clause-filed
returns-in-Err-clause-filed g c = λ payloads file is.
    let at = (goal.at.returns-in-Err-clause-filed g c).After-write_record in
    let torn = told_torn c.args.self.now.end c.as_slice-framed.result.now file (g.D.Disk.bytes c.args.disk.now)
    (g.D.Disk.bytes c.write_record.new.disk) is.told c.in-Err.ensures.torn in
    record {
      appended = tt;
      torn = λ fault. (torn.0, torn.1, has g at payloads file is.spelled is.lists torn.0 torn.2);
      any_moment = leaves g at payloads file is.spelled is.lists is.told;
    }

pub returns-in-Ok-clause-front : goal.returns-in-Ok-clause-front
returns-in-Ok-clause-front g c =
    told_with c.args.self.now.end c.as_slice-framed.result.now (g.D.Disk.bytes c.args.disk.now)
    (g.D.Disk.bytes c.write_record.new.disk) (g.D.Disk.size c.args.disk.now) (g.met.D.Disk.spans c.args.disk.now)
    c.requires.reach c.in-Ok.ensures.written

pub returns-in-Err-clause-front : goal.returns-in-Err-clause-front
returns-in-Err-clause-front g c =
    front_torn c.args.self.now.end c.as_slice-framed.result.now (g.D.Disk.bytes c.args.disk.now)
    (g.D.Disk.bytes c.write_record.new.disk) (g.D.Disk.size c.args.disk.now) (g.met.D.Disk.spans c.args.disk.now)
    c.requires.reach c.in-Err.ensures.torn
