-- Where the partitions of commits stand in a file.
--     payload_stands     where a payload stands, whatever follows its record
--     payload_shows      what it adds is shown there
--     shows_front        what a file shows is shown by each that begins as it does
--     shows_added        with one record more
--     shows_told, shows_all     told bytes of a warehouse show what is filed
use Rattle.std.proofs.Common.{◌≡◌, ℕ, ◌+◌, ◌-◌, ◌≤◌, List, [], ◌∷◌, ◌++◌, length, take, drop, Option, Some, None}
use Rattle.std.proofs.Common.{is_some, refl, sym, ap, subst, ◌∙◌, arith, append_assoc, length-append}
use Rattle.std.specs.Prelude.{IsTrue}
use Rattle.std.specs.List.{flat_map, AllByRecursion}
use Rattle.std.specs.Int.{w64, to_be_bytes}
use Rattle.std.proofs.lemmas.List.{take-append-drop, take-take, take_at, drop_at, length-drop}
use Rattle.std.proofs.lemmas.List.Concat.{flat_map-append}
use Rattle.wh_value.proofs.ListLaws.{all_append}
use Rattle.wh_frame.specs.File.{IsFileOf, header, record_of, records_of}
use Rattle.wh_filed.specs.Filed.{Filed as FiledPartition, IsShown, AllShown, AreAmong}
use Rattle.wh_filed.specs.Filing.{IsSpelledIn, EndsBy}
use Rattle.wh_filed.proofs.FilingLaws.{behind_front}
use Rattle.wh_frame.specs.Spelling.{list_bytes}
use Rattle.wh_state.specs.Commit.{Commit, as_text}
use Rattle.wh_state.specs.Spelling.{text_payload, change_bytes, payload_of, IsCommit}
use Rattle.wh_record.specs.Places.{filed_in}
use Rattle.wh_record.proofs.PlaceLaws.{all_spelled, all_within}
use Rattle.wh_journal.specs.Journal.{Lists, end_of}
use Rattle.wh_journal.specs.Torn.{SameFront}
use Rattle.wh_journal.specs.declared.journal.Journal.{Journal}
use Rattle.wh_catalog.specs.Catalog.{filed_of}
use Rattle.wh_catalog.specs.declared.catalog.Catalog.{Catalog}
use Rattle.wh_engine.specs.Warehouse.{Shows, Filed}
use Rattle.wh_decide.proofs.ListLemmas.{some_is}

-- ---- the records around one of them

regroup : (h a b c r : List ℕ) → (h ++ (a ++ (b ++ c))) ++ r ≡ (h ++ a) ++ (b ++ (c ++ r))
regroup h a b c r = simp append_assoc

pub records_around : (before behind : List (List ℕ)) (payload rest : List ℕ)
    → records_of (before ++ payload ∷ behind) ++ rest
    ≡ records_of before ++ (record_of payload ++ (flat_map record_of behind ++ rest))
unfolding records_of
records_around before behind payload rest =
    ap (λ (l : List ℕ). (header ++ l) ++ rest) (flat_map-append record_of before (payload ∷ behind))
    ∙ regroup header (flat_map record_of before) (record_of payload) (flat_map record_of behind) rest

-- a record's payload stands behind its gate and eight bytes of length
record_head : (payload rest : List ℕ)
    → record_of payload ++ rest ≡ (1 ∷ to_be_bytes w64 (length payload)) ++ (payload ++ rest)
unfolding record_of
record_head payload rest = append_assoc (1 ∷ to_be_bytes w64 (length payload)) payload rest

head_length : (payload : List ℕ) → length (1 ∷ to_be_bytes w64 (length payload)) ≡ 9
head_length payload = refl

at_front : (front rest image : List ℕ) → image ≡ front ++ rest → drop (length front) image ≡ rest
at_front front rest image is =
    ap (λ (l : List ℕ). drop (length front) l) is ∙ drop_at front rest (length front) refl

pub payload_stands : (before behind : List (List ℕ)) (payload image : List ℕ)
    → take (length (records_of (before ++ payload ∷ behind))) image ≡ records_of (before ++ payload ∷ behind)
    → (rest : List ℕ) × (drop (length (records_of before) + 9) image ≡ payload ++ rest)
payload_stands before behind payload image same =
    let all : List ℕ = records_of (before ++ payload ∷ behind) in
    let left : List ℕ = drop (length all) image in
    let more : List ℕ = flat_map record_of behind ++ left in
    let whole : image ≡ records_of before ++ (record_of payload ++ more) =
    sym (take-append-drop (length all) image) ∙ ap (λ (l : List ℕ). l ++ left) same
    ∙ records_around before behind payload left in
    let gate : drop (length (records_of before)) image
    ≡ (1 ∷ to_be_bytes w64 (length payload)) ++ (payload ++ more) =
    at_front (records_of before) (record_of payload ++ more) image whole ∙ record_head payload more in
    let found : drop (length (records_of before) + length (1 ∷ to_be_bytes w64 (length payload))) image
    ≡ payload ++ more =
    (behind_front (length (records_of before)) image (1 ∷ to_be_bytes w64 (length payload)) (payload ++ more) gate).1 in
    (more, subst (λ (n : ℕ). drop (length (records_of before) + n) image ≡ payload ++ more) (head_length payload) found)

-- ---- partitions

all_shown : (image : List ℕ) (end : ℕ) (filed : List FiledPartition) → end ≤ length image
    → AllByRecursion (IsSpelledIn image) filed → AllByRecursion (EndsBy end) filed
    → AllShown (Some image) filed
all_shown image end [] fits spelled ends = tt
all_shown image end (f ∷ fs) fits spelled ends = (
  record {
    spelled = spelled.0;
    within = λ bytes told. omega (arith, ends.0, fits, ap {B = ℕ} length (some_is image bytes told));
  },
  all_shown image end fs fits spelled.1 ends.1,
)

payload_some : (c : Commit) → 8 ≤ length (payload_of c)
unfolding text_payload
payload_some c =
    omega (arith, length-append (to_be_bytes w64 c.stamp) (list_bytes change_bytes (as_text c).changes))

-- what was filed, and what a commit adds whose payload stands at a position
pub payload_shows : (old new : List FiledPartition) (commit : Commit) (at : ℕ) (image rest : List ℕ) → IsCommit commit
    → AreAmong new (old ++ filed_in at commit) → drop at image ≡ payload_of commit ++ rest
    → AllShown (Some image) old → AllShown (Some image) new
payload_shows old new commit at image rest good among here shown =
    let fits : at + length (payload_of commit) ≤ length image =
    omega (
      arith,
      payload_some commit,
      length-drop at image,
      ap {B = ℕ} length here,
      length-append (payload_of commit) rest,
    ) in
    among (Some image) (all_append (IsShown (Some image)) old (filed_in at commit) shown
    (all_shown image (at + length (payload_of commit)) (filed_in at commit) fits
    (all_spelled commit at image rest good.written here) (all_within commit at)))

front_of : (n m : ℕ) (a b : List ℕ) → n ≤ m → take m b ≡ take m a → take n b ≡ take n a
front_of n m a b low same = sym (take-take n m b low) ∙ ap (take n) same ∙ take-take n m a low

pub shows_front : (file now : List ℕ) (j : Journal) (filed : List FiledPartition) → SameFront (end_of j - 1) file now
    → Shows file j filed → Shows now j filed
shows_front file now j filed same shows image is = shows image (is ∙ same)

-- the records stand in front of the gate
pub records_front : (payloads : List (List ℕ)) (file : List ℕ) (j : Journal) → IsFileOf payloads file → Lists payloads j
    → take (end_of j - 1) file ≡ records_of payloads
records_front payloads file j is lists =
    let size : end_of j - 1 ≡ length (records_of payloads) = omega (arith, lists.end) in
    ap (λ (l : List ℕ). take (end_of j - 1) l) is.spelled
    ∙ take_at (records_of payloads) (is.gate ∷ is.tail) (end_of j - 1) (sym size)

pub shows_added : (file now : List ℕ) (j k : Journal) (old new : List FiledPartition) (commit : Commit) (at : ℕ)
    (payloads : List (List ℕ)) → Lists payloads j → IsFileOf (payloads ++ payload_of commit ∷ []) now
    → Lists (payloads ++ payload_of commit ∷ []) k → at ≡ end_of j + 8 → end_of j ≤ end_of k
    → SameFront (end_of j - 1) file now → IsCommit commit → AreAmong new (old ++ filed_in at commit)
    → Shows file j old → Shows now k new
shows_added file now j k old new commit at payloads lists is listed place longer same good among shows image front =
    let all : List ℕ = records_of (payloads ++ payload_of commit ∷ []) in
    let size : end_of k - 1 ≡ length all = omega (arith, listed.end) in
    let records : take (end_of k - 1) image ≡ all =
    front ∙ records_front (payloads ++ payload_of commit ∷ []) now k is listed in
    let stands = payload_stands payloads [] (payload_of commit) image
    (subst (λ (n : ℕ). take n image ≡ all) size records) in
    let position : length (records_of payloads) + 9 ≡ at = omega (arith, lists.end, place) in
    let here : drop at image ≡ payload_of commit ++ stands.0 =
    subst (λ (n : ℕ). drop n image ≡ payload_of commit ++ stands.0) position stands.1 in
    let old_front : SameFront (end_of j - 1) file image =
    front_of (end_of j - 1) (end_of k - 1) now image (omega (arith, longer)) front ∙ same in
    payload_shows old new commit at image stands.0 good among here (shows image old_front)

pub shows_told : (bytes : Option (List ℕ)) (file : List ℕ) (j : Journal) (c : Catalog) → bytes ≡ Some file
    → Filed bytes j c → AllShown bytes (filed_of c)
shows_told bytes file j c told filed =
    subst (λ (b : Option (List ℕ)). AllShown b (filed_of c)) (sym told) ((filed.each file told).shows file refl)

pub shows_all : (bytes : Option (List ℕ)) (j : Journal) (c : Catalog) → IsTrue (is_some bytes) → Filed bytes j c
    → AllShown bytes (filed_of c)
shows_all None j c told filed = cc
shows_all (Some file) j c told filed = (filed.each file refl).shows file refl
