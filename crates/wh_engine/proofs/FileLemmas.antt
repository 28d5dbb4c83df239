-- The file of a warehouse.
--     keeps, stands                      what a file of commits says, and stands for
--     Stages                             a commit is staged, its payload at a position
--     filed_same, filed_append           nothing was added, or one commit
--     adds_none, adds_commit             which commits are the file's then
use Rattle.std.proofs.Common.{◌≡◌, ℕ, suc, ◌+◌, ◌-◌, ◌≤◌, List, [], ◌∷◌, ◌++◌, length, map, Option, Some, None, is_some}
use Rattle.std.proofs.Common.{refl, sym, ◌∙◌, subst, ap, arith, inl, inr, length-append}
use Rattle.std.specs.List.{AllByRecursion}
use Rattle.std.proofs.lemmas.Bool.{cases_lt}
use Rattle.std.proofs.lemmas.List.{map-append, append-nil}
use Rattle.wh_frame.specs.File.{IsFileOf, record_of, records_of}
use Rattle.wh_state.specs.State.{at_rest}
use Rattle.wh_state.specs.Stored.{Stored, first_stored, meant}
use Rattle.wh_state.specs.Commit.{Commit, Applies, applied, Leads}
use Rattle.wh_state.specs.Spelling.{payload_of, IsCommit}
use Rattle.wh_state.specs.File.{Keeps, Stands}
use Rattle.wh_world.specs.Told.{Told}
use Rattle.wh_filed.specs.Filed.{AreAmong}
use Rattle.wh_record.specs.Places.{filed_in}
use Rattle.wh_journal.specs.Journal.{Lists, IsSame, end_of}
use Rattle.wh_journal.specs.Torn.{SameFront}
use Rattle.wh_journal.specs.declared.journal.Journal.{Journal}
use Rattle.wh_catalog.specs.Catalog.{stored_of, state_of, filed_of}
use Rattle.wh_catalog.specs.declared.catalog.Catalog.{Catalog}
use Rattle.wh_engine.specs.Warehouse.{IsFileOfCommits, Filed, Shows}
use Rattle.wh_engine.specs.Answers.{AddsCommit}
use Rattle.wh_decide.proofs.ListLemmas.{all_more, leads_then, some_is, none_told}
use Rattle.wh_decide.proofs.CatalogLemmas.{rest_of}
use Rattle.wh_engine.proofs.PlaceLemmas.{shows_added}

long_records : (p : List ℕ) (ps : List (List ℕ)) → 8 ≤ length (records_of (p ∷ ps))
unfolding records_of record_of
long_records p ps = omega arith

-- a file of at most 8 bytes has no record
no_record : (p : List ℕ) (ps : List (List ℕ)) (file : List ℕ) → IsFileOf (p ∷ ps) file → length file ≤ 8 → ⊥
no_record p ps file is short =
    let long : 8 ≤ length (records_of (p ∷ ps)) = long_records p ps in
    let size : length file ≡ length (records_of (p ∷ ps)) + length (is.gate ∷ is.tail) =
    ap length is.spelled ∙ length-append (records_of (p ∷ ps)) (is.gate ∷ is.tail) in
    let some : length (is.gate ∷ is.tail) ≡ suc (length is.tail) = refl in
    omega arith

short_leads : (cs : List Commit) (file : List ℕ) (s : Stored) → IsFileOf (map payload_of cs) file → length file ≤ 8
    → Leads first_stored cs s
    → s ≡ first_stored
short_leads [] file s is short leads = sym leads
short_leads (c ∷ cs) file s is short leads = absurd (no_record (payload_of c) (map payload_of cs) file is short)

pub keeps : (cs : List Commit) (file : List ℕ) (s : Stored) → AllByRecursion IsCommit cs
    → IsFileOf (map payload_of cs) file → Leads first_stored cs s
    → Keeps file s
keeps cs file s good is leads = elim (cases_lt 8 (length file)) [
  | inl long ↦ inr (long, record { commits = cs; good = good; file = is; leads = leads })
  | inr short ↦ inl (short, short_leads cs file s is short leads)
]

pub stands : (cs : List Commit) (file : List ℕ) (s : Stored) → AllByRecursion IsCommit cs
    → IsFileOf (map payload_of cs) file → Leads first_stored cs s
    → Stands file (meant s)
stands cs file s good is leads = (s, keeps cs file s good is leads, refl)

-- what the warehouse's file stands for
pub stands_for : (file : List ℕ) (j : Journal) (c : Catalog) → IsFileOfCommits file j c
    → Stands file (at_rest (state_of c))
stands_for file j c h = rw (rest_of c) (stands h.commits file (stored_of c) h.good h.spelled h.leads)

-- ---- what becomes of it

pub same_journal : (j : Journal) → IsSame j j
same_journal j = record { places = refl; end = refl; limit = refl; failed = refl }

-- room for one more place changes nothing that is listed
pub lists_same : (payloads : List (List ℕ)) (j k : Journal) → IsSame j k → Lists payloads j → Lists payloads k
lists_same payloads j k same h = record { places = same.places ∙ h.places; end = same.end ∙ h.end }

-- the catalog says the same, and has the same filed
pub file_same : (file : List ℕ) (j : Journal) (c d : Catalog) → stored_of d ≡ stored_of c → filed_of d ≡ filed_of c
    → IsFileOfCommits file j c → IsFileOfCommits file j d
file_same file j c d is filed h = record {
  commits = h.commits;
  good = h.good;
  spelled = h.spelled;
  listed = h.listed;
  leads = subst (Leads first_stored h.commits) (sym is) h.leads;
  shows = subst (Shows file j) (sym filed) h.shows;
}

pub filed_same : (bytes : Option (List ℕ)) (j : Journal) (c d : Catalog) → stored_of d ≡ stored_of c
    → filed_of d ≡ filed_of c → Filed bytes j c → Filed bytes j d
filed_same bytes j c d is filed h = record { each = λ file told. file_same file j c d is filed (h.each file told) }

-- what an append does
abbrev pub Appends : Option (List ℕ) → Option (List ℕ) → Journal → Journal → List ℕ → Type 0
Appends old new j k payload = (payloads : List (List ℕ)) (file : List ℕ) → old ≡ Some file
    → IsFileOf payloads file → Lists payloads j
    → ((now : List ℕ) × (new ≡ Some now) × IsFileOf (payloads ++ payload ∷ []) now) × Lists (payloads ++ payload ∷ []) k

-- what a catalog has of a commit that is staged
pub record Stages (c d : Catalog) (commit : Commit) (at : ℕ) : Type 0 where
  pub applies : Applies (stored_of c) commit
  pub applied : stored_of d ≡ applied (stored_of c) commit
  pub good : IsCommit commit
  pub among : AreAmong (filed_of d) (filed_of c ++ filed_in at commit)

-- what a catalog staged of it
pub record Staged (c d : Catalog) (commit : Commit) (at : ℕ) : Type 0 where
  pub applies : Applies (stored_of c) commit
  pub applied : stored_of d ≡ applied (stored_of c) commit
  pub last : (state_of d).last ≡ commit.stamp
  pub among : AreAmong (filed_of d) (filed_of c ++ filed_in at commit)

-- and where the journal adds it
pub record Behind (j k : Journal) (at : ℕ) : Type 0 where
  pub place : at ≡ end_of j + 8
  pub longer : end_of j ≤ end_of k

-- a file of commits with that one behind them
pub commit_added : (file now : List ℕ) (j k : Journal) (c d : Catalog) (commit : Commit) (at : ℕ)
    → Appends (Some file) (Some now) j k (payload_of commit) → SameFront (end_of j - 1) file now → Behind j k at
    → Stages c d commit at → (h : IsFileOfCommits file j c)
    → (g : IsFileOfCommits now k d) × (g.commits ≡ h.commits ++ commit ∷ [])
commit_added file now j k c d commit at appends front behind staged h =
    let s = stored_of c in
    let added = appends (map payload_of h.commits) file refl h.spelled h.listed in
    let same : added.0.0 ≡ now = sym (some_is now added.0.0 added.0.1) in
    let payloads : map payload_of h.commits ++ payload_of commit ∷ [] ≡ map payload_of (h.commits ++ commit ∷ []) =
    sym (map-append payload_of h.commits (commit ∷ [])) in
    let spelled : IsFileOf (map payload_of h.commits ++ payload_of commit ∷ []) now =
    subst (IsFileOf (map payload_of h.commits ++ payload_of commit ∷ [])) same added.0.2 in (
      record {
        commits = h.commits ++ commit ∷ [];
        good = all_more IsCommit h.commits commit h.good staged.good;
        spelled = subst (λ (ps : List (List ℕ)). IsFileOf ps now) payloads spelled;
        listed = subst (λ (ps : List (List ℕ)). Lists ps k) payloads added.1;
        leads = subst (Leads first_stored (h.commits ++ commit ∷ [])) (sym staged.applied)
            (leads_then first_stored h.commits s commit h.leads staged.applies);
        shows = shows_added file now j k (filed_of c) (filed_of d) commit at (map payload_of h.commits) h.listed
            spelled added.1 behind.place behind.longer front staged.good staged.among h.shows;
      },
      refl,
    )

pub filed_append : (old new : Option (List ℕ)) (j k : Journal) (c d : Catalog) (commit : Commit) (at : ℕ)
    → is_some new ≡ is_some old → Appends old new j k (payload_of commit) → Told (SameFront (end_of j - 1)) old new
    → Behind j k at → Stages c d commit at → Filed old j c
    → Filed new k d
filed_append None new j k c d commit at told appends front behind staged h =
    record { each = λ now e. absurd (none_told new now told e) }
filed_append (Some file) new j k c d commit at told appends front behind staged h =
    record {
      each = λ now e. (commit_added file now j k c d commit at (subst (λ (o : Option (List ℕ)). Appends
          (Some file) o j k (payload_of commit)) e appends)
          (subst (Told (SameFront (end_of j - 1)) (Some file)) e front) behind staged (h.each file refl)).0;
    }

-- so where bytes are told
pub adds_commit : (old new : Option (List ℕ)) (j k : Journal) (c d : Catalog) (commit : Commit) (at : ℕ)
    → Appends old new j k (payload_of commit) → Told (SameFront (end_of j - 1)) old new
    → Behind j k at → Stages c d commit at → AddsCommit old new j k c d (Some commit)
adds_commit old new j k c d commit at appends front behind staged before after was now h =
    commit_added before after j k c d commit at
    (subst (λ (o : Option (List ℕ)). Appends o (Some after) j k (payload_of commit)) was
    (subst (λ (o : Option (List ℕ)). Appends old o j k (payload_of commit)) now appends))
    (subst (λ (o : Option (List ℕ)). Told (SameFront (end_of j - 1)) o (Some after)) was
    (subst (λ (o : Option (List ℕ)). Told (SameFront (end_of j - 1)) old o) now front)) behind staged h

-- and where no commit is made
pub adds_none : (old new : Option (List ℕ)) (j : Journal) (c d : Catalog) → new ≡ old → stored_of d ≡ stored_of c
    → filed_of d ≡ filed_of c → AddsCommit old new j j c d None
adds_none old new j c d same is filed before after was now h =
    let file : before ≡ after = some_is before after (sym was ∙ sym same ∙ now) in (
      record {
        commits = h.commits;
        good = h.good;
        spelled = subst (IsFileOf (map payload_of h.commits)) file h.spelled;
        listed = h.listed;
        leads = subst (Leads first_stored h.commits) (sym is) h.leads;
        shows = subst (λ (f : List ℕ). Shows f j (filed_of d)) file (subst (Shows before j) (sym filed) h.shows);
      },
      sym (append-nil h.commits),
    )
