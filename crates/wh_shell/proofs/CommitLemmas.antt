-- The commits that are added to a file.
--     adds_none, adds_then     none, and some behind others
--     adds_made                that of one event
use Rattle.std.proofs.Common.{◌≡◌, ℕ, List, [], ◌++◌, map, Option, Some, None, refl, sym, ap, ◌∙◌}
use Rattle.std.proofs.Common.{subst, append_assoc, append-nil, is_some}
use Rattle.std.specs.Option.{option_to_list}
use Rattle.std.proofs.lemmas.List.{map-append}
use Rattle.wh_frame.specs.File.{IsFileOf}
use Rattle.wh_state.specs.Commit.{Commit}
use Rattle.wh_state.specs.Spelling.{payload_of}
use Rattle.wh_machine.specs.Outcome.{Machine}
use Rattle.wh_world.specs.declared.disk.Disk.{Ghosts}
use Rattle.wh_record.proofs.FileLaws.{file_fixes_payloads}
use Rattle.wh_engine.specs.Answers.{commits_in, CarriesOut}
use Rattle.wh_engine.specs.declared.warehouse.Warehouse.{Warehouse}
use Rattle.wh_shell.specs.Commits.{Adds}
use Rattle.wh_shell.specs.Open.{IsOpen}
use Rattle.wh_shell.proofs.Told.{told_file}

-- nothing is added
pub adds_none : (bytes : Option (List ℕ)) → Adds bytes bytes []
adds_none bytes = record {
  each = λ file payloads told is.
      (file, told, subst (λ (ps : List (List ℕ)). IsFileOf ps file) (sym (append-nil payloads)) is);
}

-- some commits, and others behind them
pub adds_then : (a b c : Option (List ℕ)) (cs ds : List Commit) → Adds a b cs → Adds b c ds → Adds a c (cs ++ ds)
adds_then a b c cs ds one two = record {
  each = λ file payloads told is.
      let first = one.each file payloads told is in
      let second = two.each first.0 (payloads ++ map payload_of cs) first.1 first.2 in
      let same : (payloads ++ map payload_of cs) ++ map payload_of ds ≡ payloads ++ map payload_of (cs ++ ds) =
      append_assoc payloads (map payload_of cs) (map payload_of ds)
      ∙ ap (λ (l : List (List ℕ)). payloads ++ l) (sym (map-append payload_of cs ds)) in
      (second.0, second.1, subst (λ (ps : List (List ℕ)). IsFileOf ps second.0) same second.2);
}

-- the commit of an event, if it made one
listed : (commit : Option Commit) → commits_in commit ≡ option_to_list commit
listed None = refl
listed (Some c) = refl

pub adds_made : {D : Type 0} {g : Ghosts D} (old new : Warehouse D g) (commit : Option Commit) (m : Machine) →
    IsOpen old → CarriesOut old new commit m → Adds (g.bytes old.fetch.disk) (g.bytes new.fetch.disk) (option_to_list commit)
adds_made {D} {g} old new commit m ready carries = record {
  each = λ file payloads told is.
      let before = ready.filed.each file told in
      let found = told_file (g.bytes new.fetch.disk) (carries.told ∙ ap is_some told) in
      let added = carries.adds file found.0 told found.1 before in
      let known : payloads ≡ map payload_of before.commits =
      file_fixes_payloads payloads (map payload_of before.commits) file is before.spelled in
      let same : map payload_of added.0.commits ≡ payloads ++ map payload_of (option_to_list commit) =
      ap (map payload_of) (added.1 ∙ ap (λ (cs : List Commit). before.commits ++ cs) (listed commit))
      ∙ map-append payload_of before.commits (option_to_list commit)
      ∙ ap (λ (ps : List (List ℕ)). ps ++ map payload_of (option_to_list commit)) (sym known) in
      (found.0, found.1, subst (λ (ps : List (List ℕ)). IsFileOf ps found.0) same added.0.spelled);
}
