-- What is read of commits is spelled so, and what is spelled so is read.
--     reads_table, reads_version, reads_stream, reads_offset     the two laws of each
--     reads_commit                                               and of what bytes give of a commit
--     payload_fixes_text_commit                                  so the bytes fix it
use Rattle.std.proofs.Common.{◌≡◌, ℕ, zero, suc, ◌^◌, ◌<◌, Bool, true, false, cond, eqb, List, [], ◌∷◌}
use Rattle.std.proofs.Common.{◌++◌, length, Option, Some, None, refl, sym, ap, subst, ◌∙◌}
use Rattle.std.specs.Int.{w32, w64, to_be_bytes}
use Rattle.std.proofs.lemmas.List.{append-nil, nil_from_length}
use Rattle.std.proofs.lemmas.Bool.{eqb-true}
use Rattle.std.proofs.lemmas.Option.{same_Some}
use Rattle.wh_frame.specs.Spelling.{text_bytes, list_bytes, partition_bytes}
use Rattle.wh_state.specs.Task.{TaskState, Ending}
use Rattle.wh_state.specs.Dynamic.{DynamicState, GroupsChange}
use Rattle.wh_state.specs.Commit.{TextChange, CreatesTable, Drops, PushesVersion, CreatesStream, SetsOffset}
use Rattle.wh_state.specs.Commit.{CreatesTask, SetsTask, StartsRun, FinishesTask, CreatesDynamic, SetsDynamic}
use Rattle.wh_state.specs.Commit.{SetsGroups, TextCommit}
use Rattle.wh_state.specs.Spelling.{column_bytes, table_bytes, version_bytes, stream_kind_byte}
use Rattle.wh_state.specs.Spelling.{stream_bytes, offset_bytes, change_bytes, text_payload, NumbersRiseFrom}
use Rattle.wh_state.specs.Spelling.{IsTableChange, IsVersionChange, IsStreamChange, IsChange, IsTextCommit}
use Rattle.wh_part.specs.Reading.{Reader, ◌>>=◌, as_at}
use Rattle.wh_part.proofs.ReaderLaws.{AreBytes, Reads, bind_some, cond_same, reads_then}
use Rattle.wh_part.proofs.ReaderLaws.{reads_list, wide32, wide64, reads_number, reads_byte, reads_text}
use Rattle.wh_part.proofs.PartitionLaws.{reads_partition}
use Rattle.wh_record.specs.Decoding.{table_at, removed_at, version_at, change_behind}
use Rattle.wh_record.specs.Decoding.{stream_kind_at, stream_at, offset_at, change_at, commit_at, commit_of_all}
use Rattle.wh_record.specs.Laws.{PayloadFixesTextCommit}
use Rattle.wh_record.proofs.FieldLaws.{byte_taken, reads_record, four_grouped, six_grouped, rising_numbers}
use Rattle.wh_record.proofs.FieldLaws.{reads_rising}
use Rattle.wh_record.proofs.ColumnLaws.{reads_column}
use Rattle.wh_record.proofs.DynamicLaws.{reads_dynamic, reads_dynamic_state}
use Rattle.wh_record.proofs.GroupLaws.{reads_groups}
use Rattle.wh_record.proofs.TaskLaws.{reads_task, reads_state, reads_run, reads_end}

-- ---- new tables

pub reads_table : Reads table_bytes IsTableChange table_at
unfolding table_at table_bytes
reads_table =
    reads_record table_bytes IsTableChange table_at
    (λ c. (c.id, (c.name, (c.retention, c.columns)))) (λ bytes. refl) (λ c. refl)
    (λ p. four_grouped (to_be_bytes w32 p.0) (text_bytes p.1.0) (p.1.1.0 ∷ []) (list_bytes column_bytes p.1.1.1))
    (λ p good.
    record { id = good.0; name = good.1.0; retention = good.1.1.0; few = good.1.1.1.0; columns = good.1.1.1.1 })
    (λ c good. (good.id, (good.name, (good.retention, (good.few, good.columns)))))
    (reads_then (reads_number wide32) (λ id _. reads_then reads_text
    (λ name _. reads_then reads_byte (λ retention _. reads_list (reads_number wide32) reads_column))))

-- ---- new versions

reads_removed : Reads (list_bytes (to_be_bytes w64)) (λ ns. (length ns < 2 ^ 32) × NumbersRiseFrom 0 ns) removed_at
unfolding removed_at
reads_removed = reads_rising rising_numbers removed_at (λ bytes. refl) (reads_number wide64)

pub reads_version : Reads version_bytes IsVersionChange version_at
unfolding version_at version_bytes
reads_version =
    reads_record version_bytes IsVersionChange version_at
    (λ c. (c.id, (c.data_timestamp, (c.next_row, (c.width, (c.removed, c.added)))))) (λ bytes. refl) (λ c. refl)
    (λ p. six_grouped (to_be_bytes w32 p.0) (to_be_bytes w64 p.1.0) (to_be_bytes w64 p.1.1.0)
    (to_be_bytes w32 p.1.1.1.0) (list_bytes (to_be_bytes w64) p.1.1.1.1.0) (list_bytes partition_bytes p.1.1.1.1.1))
    (λ p good. record {
      id = good.0;
      data_timestamp = good.1.0;
      next_row = good.1.1.0;
      width = good.1.1.1.0;
      few_removed = good.1.1.1.1.0.0;
      removed = good.1.1.1.1.0.1;
      few = good.1.1.1.1.1.0;
      added = good.1.1.1.1.1.1;
    })
    (λ c good. (
      good.id,
      (
        good.data_timestamp,
        (good.next_row, (good.width, ((good.few_removed, good.removed), (good.few, good.added)))),
      ),
    ))
    (reads_then (reads_number wide32)
    (λ id _. reads_then (reads_number wide64) (λ timestamp _. reads_then (reads_number wide64) (λ row _.
    reads_then (reads_number wide32) (λ width _. reads_then reads_removed
    (λ removed _. reads_list (reads_number wide32) (reads_partition width)))))))

-- ---- new streams and offsets

kind_takes : (bytes : List ℕ) (b : Bool) (rest : List ℕ) → AreBytes bytes → stream_kind_at bytes ≡ Some (b, rest)
    → (bytes ≡ stream_kind_byte b ∷ [] ++ rest) × Unit {0}
unfolding stream_kind_at
kind_takes [] b rest fits e = absurd cc
kind_takes (zero ∷ bytes) b rest fits e = absurd cc
kind_takes (suc zero ∷ bytes) b rest fits e = byte_taken stream_kind_byte false b bytes rest e
kind_takes (suc (suc zero) ∷ bytes) b rest fits e = byte_taken stream_kind_byte true b bytes rest e
kind_takes (suc (suc (suc kind)) ∷ bytes) b rest fits e = absurd cc

kind_again : (b : Bool) (rest : List ℕ) → Unit {0} → stream_kind_at (stream_kind_byte b ∷ [] ++ rest) ≡ Some (b, rest)
unfolding stream_kind_at
kind_again false rest good = refl
kind_again true rest good = refl

reads_kind : Reads (λ b. stream_kind_byte b ∷ []) (λ b. Unit {0}) stream_kind_at
reads_kind = record { takes = kind_takes; again = kind_again }

pub reads_stream : Reads stream_bytes IsStreamChange stream_at
unfolding stream_at stream_bytes
reads_stream =
    reads_record stream_bytes IsStreamChange stream_at
    (λ c. (c.id, (c.name, (c.source, (c.is_append_only, c.offset))))) (λ bytes. refl) (λ c. refl)
    (λ p. four_grouped (to_be_bytes w32 p.0) (text_bytes p.1.0) (to_be_bytes w32 p.1.1.0)
    (stream_kind_byte p.1.1.1.0 ∷ to_be_bytes w64 p.1.1.1.1))
    (λ p good. record { id = good.0; name = good.1.0; source = good.1.1.0; offset = good.1.1.1.1 })
    (λ c good. (good.id, (good.name, (good.source, (tt, good.offset)))))
    (reads_then (reads_number wide32) (λ id _. reads_then reads_text (λ name _. reads_then (reads_number wide32)
    (λ source _. reads_then reads_kind (λ kind _. reads_number wide64)))))

pub reads_offset : Reads (λ p. offset_bytes p.0 p.1) (λ p. (p.0 < 2 ^ 32) × (p.1 < 2 ^ 64)) offset_at
unfolding offset_at offset_bytes
reads_offset = reads_then (reads_number wide32) (λ id _. reads_number wide64)

-- ---- changes

-- a tag and what is behind it, as a change
module _ (tag : ℕ) (bytes : List ℕ) (fits : AreBytes bytes) (c : TextChange) (rest : List ℕ) where
  abbrev IsTaken : Type 0
  IsTaken = (tag ∷ bytes ≡ change_bytes c ++ rest) × IsChange c

  -- where the tag is n, and where the others read it
  tagged_takes : {X : Type 0} {s : X → List ℕ} {g : X → Type 0} {reader : Reader X}
      (others : Option (TextChange × List ℕ))
      → Reads s g reader → (f : X → TextChange) (n : ℕ)
      → ((x : X) → g x → (n ∷ s x ≡ change_bytes (f x)) × IsChange (f x)) → (others ≡ Some (c, rest) → IsTaken)
      → cond (eqb tag n) (as_at f reader bytes) others ≡ Some (c, rest) → IsTaken
  tagged_takes {X} {s} {g} {reader} others r f n spelled there = by_tag (eqb tag n) refl
    where
      by_tag : (b : Bool) → eqb tag n ≡ b → cond b (as_at f reader bytes) others ≡ Some (c, rest) → IsTaken
      by_tag false is e = there e
      by_tag true is e =
          let a = bind_some (reader bytes) (λ x. Some (f x.0, x.1)) (c, rest) e in
          let one = r.takes bytes a.0.0 a.0.1 fits a.1 in
          let said = spelled a.0.0 one.1 in
          let whole : tag ∷ bytes ≡ change_bytes (f a.0.0) ++ a.0.1 =
          rw (eqb-true tag n is) (ap (λ (l : List ℕ). n ∷ l) one.0 ∙ ap (λ (l : List ℕ). l ++ a.0.1) said.0) in
          subst (λ (z : TextChange × List ℕ). (tag ∷ bytes ≡ change_bytes z.0 ++ z.1) × IsChange z.0)
          (same_Some (f a.0.0, a.0.1) (c, rest) a.2) (whole, said.1)

  behind_takes : change_behind tag bytes ≡ Some (c, rest) → IsTaken
  unfolding change_bytes
  behind_takes =
      tagged_takes _ reads_table CreatesTable 1 (λ t good. (refl, good))
      (tagged_takes _ (reads_number wide32) Drops 2 (λ id good. (refl, good))
      (tagged_takes _ reads_stream CreatesStream 3 (λ s good. (refl, good))
      (tagged_takes _ reads_task CreatesTask 4 (λ t good. (refl, good))
      (tagged_takes _ reads_state (λ p. SetsTask p.0 p.1) 5 (λ p good. (refl, good))
      (tagged_takes _ reads_run (λ p. StartsRun p.0 p.1) 6 (λ p good. (refl, good))
      (tagged_takes _ reads_end (λ p. FinishesTask p.0 p.1.0 p.1.1) 7 (λ p good. (refl, good))
      (tagged_takes _ reads_dynamic CreatesDynamic 8 (λ d good. (refl, good))
      (tagged_takes _ reads_dynamic_state (λ p. SetsDynamic p.0 p.1) 9 (λ p good. (refl, good))
      (tagged_takes _ reads_version PushesVersion 10 (λ v good. (refl, good))
      (tagged_takes _ reads_offset (λ p. SetsOffset p.0 p.1) 11 (λ p good. (refl, good))
      (tagged_takes None reads_groups (λ p. SetsGroups p.0 p.1) 12 (λ p good. (refl, good))
      (λ none. absurd cc))))))))))))

change_takes : (bytes : List ℕ) (c : TextChange) (rest : List ℕ) → AreBytes bytes → change_at bytes ≡ Some (c, rest)
    → (bytes ≡ change_bytes c ++ rest) × IsChange c
unfolding change_at
change_takes [] c rest fits e = absurd cc
change_takes (tag ∷ bytes) c rest fits e = behind_takes tag bytes (λ i. fits (suc i)) c rest e

abbrev said : {X : Type 0} → (X → TextChange) → Option (X × List ℕ) → Option (TextChange × List ℕ)
said f read = read >>= λ x. Some (f x.0, x.1)

change_again : (c : TextChange) (rest : List ℕ) → IsChange c → change_at (change_bytes c ++ rest) ≡ Some (c, rest)
unfolding change_at change_bytes
change_again (CreatesTable c) rest good = ap (said CreatesTable) (reads_table.again c rest good)
change_again (Drops id) rest good = ap (said Drops) ((reads_number wide32).again id rest good)
change_again (PushesVersion c) rest good = ap (said PushesVersion) (reads_version.again c rest good)
change_again (CreatesStream c) rest good = ap (said CreatesStream) (reads_stream.again c rest good)
change_again (SetsOffset id offset) rest good =
    ap (said (λ (p : ℕ × ℕ). SetsOffset p.0 p.1)) (reads_offset.again (id, offset) rest good)
change_again (CreatesTask c) rest good = ap (said CreatesTask) (reads_task.again c rest good)
change_again (SetsTask id state) rest good =
    ap (said (λ (p : ℕ × TaskState). SetsTask p.0 p.1)) (reads_state.again (id, state) rest good)
change_again (StartsRun root tasks) rest good =
    ap (said (λ (p : ℕ × List ℕ). StartsRun p.0 p.1)) (reads_run.again (root, tasks) rest good)
change_again (FinishesTask root task ending) rest good =
    ap (said (λ (p : ℕ × (ℕ × Ending)). FinishesTask p.0 p.1.0 p.1.1))
    (reads_end.again (root, (task, ending)) rest good)
change_again (CreatesDynamic c) rest good = ap (said CreatesDynamic) (reads_dynamic.again c rest good)
change_again (SetsDynamic id state) rest good =
    ap (said (λ (p : ℕ × DynamicState). SetsDynamic p.0 p.1)) (reads_dynamic_state.again (id, state) rest good)
change_again (SetsGroups id groups) rest good =
    ap (said (λ (p : ℕ × GroupsChange). SetsGroups p.0 p.1)) (reads_groups.again (id, groups) rest good)

pub reads_change : Reads change_bytes IsChange change_at
reads_change = record { takes = change_takes; again = change_again }

-- ---- commits

pub reads_commit : Reads text_payload IsTextCommit commit_at
unfolding commit_at text_payload
reads_commit =
    reads_record text_payload IsTextCommit commit_at (λ c. (c.stamp, c.changes))
    (λ bytes. refl) (λ c. refl) (λ p. refl)
    (λ p good. record { stamp = good.0; few = good.1.0; changes = good.1.1 })
    (λ c good. (good.stamp, (good.few, good.changes)))
    (reads_then (reads_number wide64) (λ stamp _. reads_list (reads_number wide32) reads_change))

-- ---- what a reading of all the bytes says

pub is_found : (bytes : List ℕ) (c : TextCommit) → AreBytes bytes → commit_of_all bytes ≡ Some c
    → IsTextCommit c × (bytes ≡ text_payload c)
unfolding commit_of_all
is_found bytes c fits e =
    let a = bind_some (commit_at bytes) (λ x. cond (eqb (length x.1) 0) (Some x.0) None) c e in
    let g = cond_same (eqb (length a.0.1) 0) a.0.0 c a.2 in
    let taken = reads_commit.takes bytes a.0.0 a.0.1 fits a.1 in
    let nothing : a.0.1 ≡ [] = nil_from_length a.0.1 (eqb-true _ _ g.0) in
    let whole : bytes ≡ text_payload a.0.0 = taken.0 ∙ ap (λ (l : List ℕ). text_payload a.0.0 ++ l) nothing
    ∙ append-nil (text_payload a.0.0) in
    subst (λ (z : TextCommit). IsTextCommit z × (bytes ≡ text_payload z)) g.1 (taken.1, whole)

pub all_again : (c : TextCommit) → IsTextCommit c → commit_of_all (text_payload c) ≡ Some c
unfolding commit_of_all
all_again c good =
    let read : commit_at (text_payload c) ≡ Some (c, []) =
    ap commit_at (sym (append-nil (text_payload c))) ∙ reads_commit.again c [] good in
    ap (λ (o : Option (TextCommit × List ℕ)). o >>= λ x. cond (eqb (length x.1) 0) (Some x.0) None) read

pub is_none : (bytes : List ℕ) → commit_of_all bytes ≡ None → (c : TextCommit) → IsTextCommit c
    → bytes ≡ text_payload c
    → ⊥
is_none bytes none c good spelled =
    let read : ◌≡◌ {A = Option TextCommit} None (Some c) = sym none ∙ ap commit_of_all spelled ∙ all_again c good in
    absurd cc

pub is_again : (bytes : List ℕ) (d : TextCommit) → commit_of_all bytes ≡ Some d → (c : TextCommit) → IsTextCommit c
    → bytes ≡ text_payload c → d ≡ c
is_again bytes d e c good spelled = same_Some d c (sym e ∙ ap commit_of_all spelled ∙ all_again c good)

pub payload_fixes_text_commit : PayloadFixesTextCommit
payload_fixes_text_commit c d hc hd same = same_Some c d (sym (all_again c hc) ∙ ap commit_of_all same ∙ all_again d hd)
