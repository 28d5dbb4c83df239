-- What a run begins with.
--     some_gate                           a file's gate ends somewhere
--     machine_is, machine_opened          the machine that is opened is that of the file's state
--     not_opened                          what a crash leaves where nothing is opened
--     run_survives, unopened_survives     what a crash leaves of a run
use Rattle.std.proofs.Common.{◌≡◌, inl, inr, ℕ, ◌+◌, ◌≤◌, List, [], ◌++◌, length, map, refl, sym, ap, subst, ◌∙◌}
use Rattle.std.proofs.Common.{append-nil, arith, Option, Some, option_map}
use Rattle.std.proofs.lemmas.List.{append_cancel_left}
use Rattle.wh_frame.specs.File.{records_of, GateEndsAt}
use Rattle.wh_state.specs.State.{State, at_rest}
use Rattle.wh_state.specs.Stored.{Stored, Means}
use Rattle.wh_state.specs.Spelling.{payload_of}
use Rattle.wh_state.specs.File.{Keeps, Stands}
use Rattle.wh_machine.specs.Sessions.{Sessions, no_sessions}
use Rattle.wh_machine.specs.Outcome.{Machine, opened}
use Rattle.wh_machine.specs.Step.{Event}
use Rattle.wh_machine.specs.Stop.{most_events, StandsWithin}
use Rattle.wh_world.specs.Crash.{Only}
use Rattle.wh_world.specs.declared.disk.Disk.{Ghosts}
use Rattle.wh_journal.specs.Crash.{LeavesOnly, IsKeptOrShort}
use Rattle.wh_journal.proofs.CrashLemmas.{both, weaker, started}
use Rattle.wh_commit_parse.proofs.FileLaws.{file_fixes_state}
use Rattle.wh_engine.specs.Leaves.{StandsForEither}
use Rattle.wh_shell.specs.Crash.{Survives, SurvivesWith}
use Rattle.wh_shell.proofs.Within.{within_none}
use Rattle.wh_shell.proofs.Survival.{none_survives}

-- ---- the file

-- a file stands for a state at rest
stands_rest : (file : List ℕ) (s : State) → Stands file s → at_rest s ≡ s
stands_rest file s stands = ap at_rest stands.2 ∙ sym stands.2

-- the gate of what a file keeps ends somewhere
pub some_gate : (file : List ℕ) (s : Stored) → Keeps file s → (end : ℕ) × GateEndsAt file end
some_gate file s (inl short) = (8, inl (short.0, refl))
some_gate file s (inr long) = (
  length (records_of (map payload_of long.1.commits)) + 1,
  inr (long.0, (map payload_of long.1.commits, long.1.file, refl)),
)

-- an image that an opening may leave keeps the same
kept : (file image : List ℕ) (s : Stored) → IsKeptOrShort file image → Keeps file s → Keeps image s
kept file image s (inl same) keeps = subst (λ (l : List ℕ). Keeps l s) (sym same) keeps
kept file image s (inr short) (inl few) = inl (short.1, few.1)
kept file image s (inr short) (inr long) = absurd (omega (arith, short.0, long.0))

-- what an opening may leave stands for the same state
kept_stands : (file : List ℕ) (s : State) → Stands file s → (image : List ℕ) → IsKeptOrShort file image →
    StandsForEither s s image
kept_stands file s stands image is =
    inl (stands.0, kept file image stands.0 is stands.1, stands_rest file s stands ∙ stands.2)

-- ---- the machine

-- without open transactions it is that of its state
pub machine_is : (m : Machine) (start : State) → m.state ≡ start → m.sessions ≡ no_sessions → m ≡ opened start
machine_is m start state none =
    ap {B = Machine} (λ (ts : Sessions). record { state = m.state; sessions = ts }) none ∙ ap opened state

-- and of the state that the file stands for
pub machine_opened : (file : List ℕ) (s : Stored) (start : State) (m : Machine) → Stands file start → Keeps file s →
    Means s m.state → m.sessions ≡ no_sessions → opened start ≡ m
machine_opened file s start m stands keeps means none =
    let state : start ≡ m.state = file_fixes_state file start m.state stands (s, keeps, means) in
    sym (machine_is m start (sym state) none)

-- ---- what a crash leaves

module _ {D : Type 0} (d : Ghosts D) where
  -- nothing is opened
  pub not_opened : (only_now : (disk : D) (image : List ℕ) → d.left_since disk (d.moment disk) image →
      d.may_leave disk image) →
      (disk : D) (file : List ℕ) → Only file (d.may_leave disk) →
      LeavesOnly d.moment d.left_since disk disk (IsKeptOrShort file)
  not_opened only_now disk file only =
      weaker d.moment d.left_since disk disk (d.may_leave disk) (IsKeptOrShort file)
      (λ image left. inl (only image left))
      (started d.moment d.left_since d.may_leave only_now disk)

  opened_survives : (first mid last : D) (m : Machine) (es : List Event) (n : ℕ) →
      LeavesOnly d.moment d.left_since first mid (StandsForEither m.state m.state) →
      Survives d mid last m es n → Survives d first last m es n
  opened_survives first mid last m es n run survives = record {
    any_moment = both d.moment d.left_since first mid last (StandsWithin m es 0 (most_events m es n))
        (weaker d.moment d.left_since first mid (StandsForEither m.state m.state)
        (StandsWithin m es 0 (most_events m es n))
        (λ image is. within_none m es 0 (most_events m es n) image (omega arith) is) run)
        survives.any_moment;
    at_exit = survives.at_exit;
  }

  -- a run behind an opening, whose output was told
  pub run_survives : (first mid last : D) (held held_new : Option (List ℕ)) (file before written : List ℕ)
      (start : State) (now : Machine) (es : List Event) → Stands file start → opened start ≡ now →
      LeavesOnly d.moment d.left_since first mid (IsKeptOrShort file) →
      SurvivesWith d mid last now es held held_new →
      held ≡ Some before → held_new ≡ Some (before ++ written) →
      Survives d first last (opened start) es (length written)
  run_survives first mid last held held_new file before written start now es stands same run all told held_is =
      let told_new : held_new ≡ Some (before ++ all.piece) =
      all.written ∙ ap (option_map (λ x. x ++ all.piece)) told in
      let appended : before ++ all.piece ≡ before ++ written = cc (told_new, held_is) in
      let written_is : all.piece ≡ written = append_cancel_left before all.piece written appended in
      let behind : Survives d mid last (opened start) es (length all.piece) =
      subst (λ (m : Machine). Survives d mid last m es (length all.piece)) (sym same) all.survives in
      opened_survives first mid last (opened start) es (length written)
      (weaker d.moment d.left_since first mid (IsKeptOrShort file) (StandsForEither start start)
      (kept_stands file start stands) run)
      (subst (λ (l : List ℕ). Survives d mid last (opened start) es (length l)) written_is behind)

  -- a run that opened nothing
  pub unopened_survives : (counts_now : (disk : D) (t : ℕ) (image : List ℕ) → t ≤ d.moment disk →
      d.may_leave disk image → d.left_since disk t image) →
      (old new : D) (held held_new : Option (List ℕ)) (file before written : List ℕ) (start : State)
      (es : List Event) →
      Stands file start → LeavesOnly d.moment d.left_since old new (IsKeptOrShort file) →
      held_new ≡ held → held ≡ Some before → held_new ≡ Some (before ++ written) →
      Survives d old new (opened start) es (length written)
  unopened_survives counts_now old new held held_new file before written start es stands run same told held_is =
      let appended : before ++ [] ≡ before ++ written = append-nil before ∙ cc (same, held_is, told) in
      let none : [] ≡ written = append_cancel_left before [] written appended in
      subst (λ (l : List ℕ). Survives d old new (opened start) es (length l)) none
      (none_survives d counts_now old new (opened start) es
      (weaker d.moment d.left_since old new (IsKeptOrShort file) (StandsForEither start start)
      (kept_stands file start stands) run))
