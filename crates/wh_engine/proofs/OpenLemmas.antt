-- What an opened file stands for, and where one has its first fault.
--     begun_file                   one that is written anew
--     opened, filed, gate_ends     one that was replayed to its end
--     fault_first, stray_first     one that breaks off, and one with a record that strays
--     left_by_opening              what a crash leaves behind the journal's recovery
--     unread, fails                faults that aren't the file's
use Rattle.std.proofs.Common.{◌≡◌, ℕ, ◌-◌, ◌<◌, ◌^◌, ◌⊎◌, List, [], ◌∷◌, ◌++◌, length, map, take, Option, Some, None}
use Rattle.std.proofs.Common.{is_some, Result, Err, refl, sym, ◌∙◌, subst, ap, arith, inl, inr}
use Rattle.std.specs.Prelude.{MatchOption}
use Rattle.std.specs.List.{AllByRecursion, flat_map}
use Rattle.std.proofs.lemmas.Bool.{cases_lt}
use Rattle.wh_world.specs.Crash.{Only}
use Rattle.wh_state.specs.Stored.{Stored, first_stored}
use Rattle.wh_state.specs.Commit.{Commit, Leads}
use Rattle.wh_state.specs.Spelling.{payload_of}
use Rattle.wh_frame.specs.File.{IsFileOf, IsCut, GateEndsAt, header, record_of, records_of}
use Rattle.wh_state.specs.File.{Keeps}
use Rattle.wh_state.specs.Fault.{IsFaulty, BreaksOff, IsFirstFault}
use Rattle.wh_journal.specs.Crash.{IsKeptOrShort}
use Rattle.wh_journal.specs.Fault.{AllShort, EndsEarly, ListsUpTo}
use Rattle.wh_journal.specs.Device.{Counts}
use Rattle.wh_journal.specs.Opening.{RecoversShort, RecoversLong, LeavesKept}
use Rattle.wh_journal.specs.declared.fault.ReadFault.{ReadFault}
use Rattle.wh_journal.specs.declared.fault.ReadFault.TheVariants as reads
use Rattle.wh_world.specs.declared.disk.Disk.{Ghosts}
use Rattle.wh_journal.specs.Journal.{Lists, end_of, count_of}
use Rattle.wh_journal.specs.declared.journal.Journal.{Journal}
use Rattle.wh_filed.specs.Filed.{Filed as FiledPartition}
use Rattle.wh_catalog.specs.Catalog.{stored_of, filed_of}
use Rattle.wh_catalog.specs.declared.catalog.Catalog.{Catalog}
use Rattle.wh_engine.specs.Warehouse.{IsFileOfCommits, Filed, Shows}
use Rattle.wh_journal.specs.Fault.{fault_of_read}
use Rattle.wh_engine.specs.Opening.{FailsToOpen}
use Rattle.wh_engine.specs.Replay.{IsListed, Replays, StraysAt, LeadsTo, Strays, ShowsListed}
use Rattle.wh_journal.specs.declared.fault.OpenFault.{OpenFault}
use Rattle.wh_journal.specs.declared.fault.OpenFault.TheVariants.{DiskFault, NotWarehouse}
use Rattle.wh_engine.proofs.FileLemmas.{keeps}
use Rattle.wh_engine.proofs.PlaceLemmas.{records_around, records_front}
use Rattle.wh_decide.proofs.ListLemmas.{all_front, all_back, some_is, none_told}

abbrev pub IsWhole : List ℕ → Journal → Type 0
IsWhole file j = (payloads : List (List ℕ)) × IsFileOf payloads file × Lists payloads j

pub begun_file : IsFileOf [] (header ++ 0 ∷ [])
unfolding records_of
begun_file = record { gate = 0; tail = []; closed = λ e. absurd cc; spelled = refl; short = tt }

begun_end : (j : Journal) → Lists [] j → end_of j ≡ 8
unfolding records_of
begun_end j lists = lists.end

whole_at_none : (file : List ℕ) (j : Journal) (fault : Option ℕ) → fault ≡ None
    → MatchOption fault (IsWhole file j) (λ at. ListsUpTo file j at)
    → IsWhole file j
whole_at_none file j None none h = h
whole_at_none file j (Some at) none h = absurd cc

fault_at_some : (file : List ℕ) (j : Journal) (fault : Option ℕ) (at : ℕ) → fault ≡ Some at
    → MatchOption fault (IsWhole file j) (λ n. ListsUpTo file j n)
    → ListsUpTo file j at
fault_at_some file j None at is h = absurd cc
fault_at_some file j (Some n) at is h = let same : n ≡ at = cc in subst (ListsUpTo file j) same h

listed_whole : (payloads : List (List ℕ)) (file : List ℕ) (mid : Option (List ℕ)) (j : Journal) → mid ≡ Some file
    → IsFileOf payloads file → Lists payloads j → IsListed mid j payloads
listed_whole payloads file mid j told is lists =
    record { file = file; rest = is.gate ∷ is.tail; told = told; begins = is.spelled; lists = lists }

listed_early : (payloads : List (List ℕ)) (file : List ℕ) (mid : Option (List ℕ)) (j : Journal) (at : ℕ)
    → mid ≡ Some file → EndsEarly file payloads at → Lists payloads j → IsListed mid j payloads
listed_early payloads file mid j at told ends lists =
    record { file = file; rest = ends.rest; told = told; begins = ends.spelled; lists = lists }

-- ---- a file that was replayed to its end

no_commits : (cs : List Commit) (s : Stored) → map payload_of cs ≡ [] → Leads first_stored cs s → s ≡ first_stored
no_commits [] s e leads = sym leads
no_commits (c ∷ cs) s e leads = absurd cc

led_whole : (payloads : List (List ℕ)) (file : List ℕ) (mid : Option (List ℕ)) (j : Journal) (s : Stored)
    → mid ≡ Some file → IsFileOf payloads file → Lists payloads j → LeadsTo mid j s → Replays first_stored payloads s
led_whole payloads file mid j s told is lists led = led payloads (listed_whole payloads file mid j told is lists)

pub opened : (old mid : Option (List ℕ)) (j : Journal) (fault : Option ℕ) (s : Stored) → fault ≡ None
    → RecoversShort old mid (j, fault) → RecoversLong old mid (j, fault) → LeadsTo mid j s
    → (file : List ℕ) → old ≡ Some file → Keeps file s
opened old mid j fault s none begun read led file told = elim (cases_lt 8 (length file)) [
  | inl long ↦
      let r = read file told long in
      let whole = whole_at_none file j fault none r.1 in
      let h = led_whole whole.0 file mid j s r.0 whole.1 whole.2 led in
      keeps h.commits file s h.good (subst (λ (ps : List (List ℕ)). IsFileOf ps file) (sym h.spelled) whole.1) h.leads
  | inr short ↦
      let b = begun file told short in
      let h = led_whole [] (header ++ 0 ∷ []) mid j s b.0 begun_file b.1 led in
      inl (short, no_commits h.commits s h.spelled h.leads)
]

-- what the records of a file show is shown by each that begins as it does
shows_listed : (payloads : List (List ℕ)) (file : List ℕ) (mid : Option (List ℕ)) (j : Journal)
    (filed : List FiledPartition) → mid ≡ Some file → IsFileOf payloads file → Lists payloads j
    → ShowsListed mid j filed → Shows file j filed
shows_listed payloads file mid j filed told is lists shown image same =
    let size : end_of j - 1 ≡ length (records_of payloads) = omega (arith, lists.end) in
    let front : take (end_of j - 1) image ≡ records_of payloads = same ∙ records_front payloads file j is lists in
    shown payloads (listed_whole payloads file mid j told is lists) image
    (subst (λ (n : ℕ). take n image ≡ records_of payloads) size front)

filed_by : (payloads : List (List ℕ)) (file : List ℕ) (mid : Option (List ℕ)) (j : Journal) (c : Catalog)
    → mid ≡ Some file → IsFileOf payloads file → Lists payloads j → LeadsTo mid j (stored_of c)
    → ShowsListed mid j (filed_of c)
    → IsFileOfCommits file j c
filed_by payloads file mid j c told is lists led shown =
    let h = led_whole payloads file mid j (stored_of c) told is lists led in
    record {
      commits = h.commits;
      good = h.good;
      spelled = subst (λ (ps : List (List ℕ)). IsFileOf ps file) (sym h.spelled) is;
      listed = subst (λ (ps : List (List ℕ)). Lists ps j) (sym h.spelled) lists;
      leads = h.leads;
      shows = shows_listed payloads file mid j (filed_of c) told is lists shown;
    }

filed_told : (old mid : Option (List ℕ)) (j : Journal) (fault : Option ℕ) (c : Catalog) → fault ≡ None
    → RecoversShort old mid (j, fault) → RecoversLong old mid (j, fault) → LeadsTo mid j (stored_of c)
    → ShowsListed mid j (filed_of c) → (file now : List ℕ) → old ≡ Some file
    → mid ≡ Some now → IsFileOfCommits now j c
filed_told old mid j fault c none begun read led shown file now told is = elim (cases_lt 8 (length file)) [
  | inl long ↦
      let r = read file told long in
      let whole = whole_at_none file j fault none r.1 in
      let same : file ≡ now = some_is file now (sym r.0 ∙ is) in
      subst (λ (f : List ℕ). IsFileOfCommits f j c) same (filed_by whole.0 file mid j c r.0 whole.1 whole.2 led shown)
  | inr short ↦
      let b = begun file told short in
      let same : header ++ 0 ∷ [] ≡ now = some_is (header ++ 0 ∷ []) now (sym b.0 ∙ is) in
      subst (λ (f : List ℕ). IsFileOfCommits f j c) same
      (filed_by [] (header ++ 0 ∷ []) mid j c b.0 begun_file b.1 led shown)
]

pub filed : (old mid : Option (List ℕ)) (j : Journal) (fault : Option ℕ) (c : Catalog) → is_some mid ≡ is_some old
    → fault ≡ None → RecoversShort old mid (j, fault) → RecoversLong old mid (j, fault) → LeadsTo mid j (stored_of c)
    → ShowsListed mid j (filed_of c)
    → Filed mid j c
filed None mid j fault c told none begun read led shown =
    record { each = λ now e. absurd (none_told mid now told e) }
filed (Some file) mid j fault c told none begun read led shown =
    record { each = λ now e. filed_told (Some file) mid j fault c none begun read led shown file now refl e }

pub gate_ends : (old mid : Option (List ℕ)) (j : Journal) (fault : Option ℕ) → fault ≡ None
    → RecoversShort old mid (j, fault)
    → RecoversLong old mid (j, fault) → (file : List ℕ) → old ≡ Some file → GateEndsAt file (end_of j)
gate_ends old mid j fault none begun read file told = elim (cases_lt 8 (length file)) [
  | inl long ↦
      let whole = whole_at_none file j fault none (read file told long).1 in
      inr (long, (whole.0, whole.1, whole.2.end))
  | inr short ↦ inl (short, begun_end j (begun file told short).1)
]

-- ---- the first fault

short_commits : (cs : List Commit) → AllShort (map payload_of cs)
    → AllByRecursion (λ c. length (payload_of c) < 2 ^ 64) cs
short_commits [] h = tt
short_commits (c ∷ cs) h = (h.0, short_commits cs h.1)

-- behind the commits that were replayed
breaks_off : (payloads : List (List ℕ)) (file rest : List ℕ) (at : ℕ) (s : Stored) → Replays first_stored payloads s
    → AllShort payloads → file ≡ records_of payloads ++ rest → IsFaulty rest s → at ≡ length (records_of payloads)
    → BreaksOff file at
breaks_off payloads file rest at s h short is faulty place = record {
  commits = h.commits;
  good = h.good;
  short = short_commits h.commits (subst AllShort (sym h.spelled) short);
  reached = s;
  leads = h.leads;
  rest = rest;
  spelled = subst (λ (ps : List (List ℕ)). file ≡ records_of ps ++ rest) (sym h.spelled) is;
  faulty = faulty;
  place = subst (λ (ps : List (List ℕ)). at ≡ length (records_of ps)) (sym h.spelled) place;
}

stray_breaks_off : (payloads : List (List ℕ)) (file rest : List ℕ) (at : ℕ) → AllShort payloads
    → file ≡ records_of payloads ++ rest → StraysAt payloads at
    → BreaksOff file at
stray_breaks_off payloads file rest at short is h =
    let split : AllShort (h.before ++ h.payload ∷ h.behind) = subst AllShort h.split short in
    let front : AllShort h.before =
    all_front (λ (p : List ℕ). length p < 2 ^ 64) h.before (h.payload ∷ h.behind) split in
    let back : AllShort (h.payload ∷ h.behind) =
    all_back (λ (p : List ℕ). length p < 2 ^ 64) h.before (h.payload ∷ h.behind) split in
    let left : List ℕ = flat_map record_of h.behind ++ rest in
    let whole : file ≡ records_of h.before ++ (record_of h.payload ++ left) =
    is ∙ ap (λ (ps : List (List ℕ)). records_of ps ++ rest) h.split ∙ records_around h.before h.behind h.payload rest in
    breaks_off h.before file (record_of h.payload ++ left) at h.reached h.replayed front whole
    (inr (inr (record { payload = h.payload; rest = left; spelled = refl; short = back.0; none = h.none }))) h.place

early : (rest : List ℕ) (s : Stored) → (rest ≡ []) ⊎ IsCut rest → IsFaulty rest s
early rest s (inl none) = inl none
early rest s (inr cut) = inr (inl cut)

up_to : (file : List ℕ) (mid : Option (List ℕ)) (j : Journal) (at : ℕ) (s : Stored) → mid ≡ Some file
    → ListsUpTo file j at → LeadsTo mid j s → IsFirstFault file at
up_to file mid j at s told (inl lacks) led = inl lacks.0
up_to file mid j at s told (inr up) led =
    let ends = up.1 in
    let h = led up.0 (listed_early up.0 file mid j at told ends up.2) in
    inr (breaks_off up.0 file ends.rest at s h ends.short ends.spelled (early ends.rest s ends.faulty) ends.place)

-- where each record that the journal lists was replayed, it is where the file breaks off
pub fault_first : (old mid : Option (List ℕ)) (j : Journal) (fault : Option ℕ) (at : ℕ) (s : Stored) → fault ≡ Some at
    → RecoversShort old mid (j, fault) → RecoversLong old mid (j, fault) → LeadsTo mid j s
    → (file : List ℕ) → old ≡ Some file
    → (8 < length file) × IsFirstFault file at × (mid ≡ Some file)
fault_first old mid j fault at s is begun read led file told = elim (cases_lt 8 (length file)) [
  | inl long ↦ let r = read file told long in
      (long, up_to file mid j at s r.0 (fault_at_some file j fault at is r.1) led, r.0)
  | inr short ↦ let b = begun file told short in absurd (cc (is, b.2))
]

count_none : (j : Journal) → Lists [] j → count_of j ≡ 0
count_none j lists = ap length lists.places

strays_up_to : (file : List ℕ) (mid : Option (List ℕ)) (j : Journal) (at : ℕ) (fault : Option ℕ) → mid ≡ Some file
    → 0 < count_of j → MatchOption fault (IsWhole file j) (λ n. ListsUpTo file j n) → Strays mid j at
    → BreaksOff file at
strays_up_to file mid j at None told some whole stray =
    let is = whole.1 in
    stray_breaks_off whole.0 file (is.gate ∷ is.tail) at is.short is.spelled
    (stray whole.0 (listed_whole whole.0 file mid j told is whole.2))
strays_up_to file mid j at (Some n) told some (inl lacks) stray = absurd (omega (arith, count_none j lacks.1))
strays_up_to file mid j at (Some n) told some (inr up) stray =
    let ends = up.1 in
    stray_breaks_off up.0 file ends.rest at ends.short ends.spelled
    (stray up.0 (listed_early up.0 file mid j n told ends up.2))

-- else it is at the record that strays, which stands before
pub stray_first : (old mid : Option (List ℕ)) (j : Journal) (fault : Option ℕ) (at : ℕ)
    → RecoversShort old mid (j, fault)
    → RecoversLong old mid (j, fault) → 0 < count_of j → Strays mid j at → (file : List ℕ) → old ≡ Some file
    → (8 < length file) × IsFirstFault file at × (mid ≡ Some file)
stray_first old mid j fault at begun read some stray file told = elim (cases_lt 8 (length file)) [
  | inl long ↦ let r = read file told long in (long, inr (strays_up_to file mid j at fault r.0 some r.1 stray), r.0)
  | inr short ↦ let b = begun file told short in absurd (omega (arith, count_none j b.1))
]

-- ---- a crash

-- what stands on the disk once the journal is recovered
pub left_by_opening : (old mid : Option (List ℕ)) (j : Journal) (fault : Option ℕ) (images : List ℕ → Type 0)
    → RecoversShort old mid (j, fault) → RecoversLong old mid (j, fault)
    → ((now : List ℕ) → mid ≡ Some now → Only now images)
    → (file : List ℕ) → old ≡ Some file → (image : List ℕ) → images image
    → IsKeptOrShort file image
left_by_opening old mid j fault images begun read only file told image is = elim (cases_lt 8 (length file)) [
  | inl long ↦ inl (only file (read file told long).0 image is)
  | inr short ↦
      let anew : image ≡ header ++ 0 ∷ [] = only (header ++ 0 ∷ []) (begun file told short).0 image is in
      inr (short, omega (arith, ap length anew))
]

-- ---- faults that aren't the file's

-- of any but the disk
pub fails : {D : Type 0} (seen : Ghosts D) (old new : D) (fault : OpenFault) → (fault ≡ DiskFault → ⊥)
    → seen.faults new ≡ seen.faults old → LeavesKept seen old new
    → ((at : ℕ) → fault ≡ NotWarehouse at → (file : List ℕ) → seen.bytes old ≡ Some file
    → (8 < length file) × IsFirstFault file at × (seen.bytes new ≡ Some file) × Only file (seen.may_leave new))
    → FailsToOpen seen old new fault
fails seen old new fault other same left at_fault = record {
  not_warehouse = λ at file is. at_fault at is file;
  unfailed = λ at is. same;
  memory = λ is. same;
  disk_fault = λ is. absurd (other is);
  later = omega (arith, same);
  any_moment = left;
}

-- of a recovery
pub unread : {D A : Type 0} (seen : Ghosts D) (old new : D) (r : Result A ReadFault) (fault : ReadFault) → r ≡ Err fault
    → LeavesKept seen old new → Counts seen old new r reads.OutOfMemory reads.DiskFault
    → FailsToOpen seen old new (fault_of_read fault)
unread seen old new r reads.OutOfMemory is left counts =
    fails seen old new _ (λ disk. cc) (counts.starved is) left (λ at e. absurd cc)
unread seen old new r reads.DiskFault is left counts = record {
  not_warehouse = λ at file e. absurd cc;
  unfailed = λ at e. absurd cc;
  memory = λ e. absurd cc;
  disk_fault = λ e. counts.disk_fault is;
  later = counts.later;
  any_moment = left;
}
