-- What a crash leaves while a call goes on.
--     leaves_commit       while a commit is added
--     reads_leave         while the disk is only read
--     leaves_still        where nothing but reads happens
--     leaves_shown        where the file shows what is filed
--     leaves_behind       behind calls that only read
use Rattle.std.proofs.Common.{inl, inr, ⊎_elim, ℕ, List, [], ◌∷◌, ◌++◌, ◌≡◌, map, Some, refl, sym, subst, ◌∙◌, arith}
use Rattle.std.proofs.lemmas.List.{map-append}
use Rattle.wh_frame.specs.File.{IsFileOf}
use Rattle.wh_state.specs.State.{State, at_rest}
use Rattle.wh_state.specs.Stored.{first_stored, meant}
use Rattle.wh_state.specs.Commit.{Commit, Applies, applied}
use Rattle.wh_state.specs.Spelling.{payload_of, IsCommit}
use Rattle.wh_state.specs.File.{Stands}
use Rattle.wh_world.specs.Crash.{Only}
use Rattle.wh_journal.specs.Crash.{LeavesOnly}
use Rattle.wh_journal.specs.Torn.{HasWithOrWithout}
use Rattle.wh_journal.proofs.CrashLemmas.{weaker, both}
use Rattle.wh_journal.specs.declared.journal.Journal.{Journal}
use Rattle.wh_catalog.specs.Catalog.{stored_of, state_of}
use Rattle.wh_catalog.specs.declared.catalog.Catalog.{Catalog}
use Rattle.wh_journal.specs.Journal.{Lists, IsSame}
use Rattle.wh_engine.specs.Warehouse.{IsFileOfCommits, ShowsAll, IsOnlyRead, state_with}
use Rattle.wh_world.specs.declared.disk.Disk.{Ghosts}
use Rattle.wh_fetch.specs.Device.{OnlyRead}
use Rattle.wh_engine.specs.declared.warehouse.Warehouse.{Warehouse}
use Rattle.wh_engine.specs.Leaves.{StandsForEither, Leaves}
use Rattle.wh_decide.proofs.ListLemmas.{all_more, leads_then}
use Rattle.wh_decide.proofs.CatalogLemmas.{rest_of}
use Rattle.wh_engine.proofs.FileLemmas.{stands, stands_for, lists_same}
use Rattle.wh_engine.proofs.PlaceLemmas.{shows_told}
use Rattle.wh_engine.proofs.ReadLemmas.{filed_behind}

-- a file of the commits so far stands for the state before the call
before : (file image : List ℕ) (j : Journal) (c : Catalog) (h : IsFileOfCommits file j c)
    → IsFileOf (map payload_of h.commits) image
    → Stands image (at_rest (state_of c))
before file image j c h is = rw (rest_of c) (stands h.commits image (stored_of c) h.good is h.leads)

-- and one with the new commit for that after it
after_it : (file image : List ℕ) (j : Journal) (c : Catalog) (commit : Commit) (h : IsFileOfCommits file j c)
    → Applies (stored_of c) commit → IsCommit commit
    → IsFileOf (map payload_of h.commits ++ payload_of commit ∷ []) image
    → Stands image (meant (applied (stored_of c) commit))
after_it file image j c commit h applies good is =
    stands (h.commits ++ commit ∷ []) image (applied (stored_of c) commit)
    (all_more IsCommit h.commits commit h.good good)
    (subst (λ (ps : List (List ℕ)). IsFileOf ps image) (sym (map-append payload_of h.commits (commit ∷ []))) is)
    (leads_then first_stored h.commits (stored_of c) commit h.leads applies)

with_or_without : (file : List ℕ)
    (j : Journal) (c : Catalog) (commit : Commit) (state : State) (h : IsFileOfCommits file j c)
    → at_rest state ≡ meant (applied (stored_of c) commit) → Applies (stored_of c) commit → IsCommit commit
    → (image : List ℕ) → HasWithOrWithout (map payload_of h.commits) (payload_of commit) image
    → StandsForEither (state_of c) state image
with_or_without file j c commit state h is applies good image has =
    ⊎_elim (λ old. inl (before file image j c h old))
    (λ new. inr (subst (Stands image) (sym is) (after_it file image j c commit h applies good new))) has

-- an append, over a journal with room for one more place
pub leaves_commit : {D : Type 0} {seen : Ghosts D} (old new : Warehouse D seen)
    (j : Journal) (commit : Commit) (payload : List ℕ)
    → IsSame old.journal j → payload ≡ payload_of commit → Applies (stored_of old.catalog) commit → IsCommit commit
    → ((payloads : List (List ℕ)) (file : List ℕ) → seen.bytes old.fetch.disk ≡ Some file
    → IsFileOf payloads file → Lists payloads j → Only file (seen.may_leave old.fetch.disk)
    → LeavesOnly seen.moment seen.left_since old.fetch.disk new.fetch.disk (HasWithOrWithout payloads payload))
    → Leaves old new (state_with (stored_of old.catalog) commit.stamp (Some commit))
leaves_commit {D} {seen} old new j commit payload same spelled applies good runs = record {
  each = λ file told only filed.
      let h = filed.each file told in
      let ran = runs (map payload_of h.commits) file told h.spelled
      (lists_same (map payload_of h.commits) old.journal j same h.listed) only in
      let turned = subst (λ (p : List ℕ). LeavesOnly seen.moment seen.left_since old.fetch.disk new.fetch.disk
      (HasWithOrWithout (map payload_of h.commits) p)) spelled ran in
      weaker seen.moment seen.left_since old.fetch.disk new.fetch.disk
      (HasWithOrWithout (map payload_of h.commits) (payload_of commit)) _
      (with_or_without file old.journal old.catalog commit
      (state_with (stored_of old.catalog) commit.stamp (Some commit)) h refl applies good) turned;
}

-- ---- a disk that is only read

pub reads_leave : {D : Type 0} (seen : Ghosts D)
    (only_now : (disk : D) (image : List ℕ) → seen.left_since disk (seen.moment disk) image → seen.may_leave disk image)
    → (old new : D) → OnlyRead seen old new → LeavesOnly seen.moment seen.left_since old new (seen.may_leave old)
reads_leave seen only_now old new read = record {
  later = read.later;
  each = λ image left. ⊎_elim (λ past. only_now old image past) (λ is. is)
      (read.since (seen.moment old) image (omega arith) left);
  before = λ since image le left. read.since since image le left;
}

module _ {D : Type 0} {seen : Ghosts D}
    (only_now : (disk : D) (image : List ℕ) → seen.left_since disk (seen.moment disk) image → seen.may_leave disk image)
  where
    -- from a file that is all on the disk, and stands for the state so far
    stays_read : (old new : D) (file : List ℕ) (j : Journal) (c : Catalog) (state : State) → OnlyRead seen old new
        → Only file (seen.may_leave old) → IsFileOfCommits file j c
        → LeavesOnly seen.moment seen.left_since old new (StandsForEither (state_of c) state)
    stays_read old new file j c state read only h =
        weaker seen.moment seen.left_since old new (seen.may_leave old) (StandsForEither (state_of c) state)
        (λ image is. inl
        (subst (λ (l : List ℕ). Stands l (at_rest (state_of c))) (sym (only image is)) (stands_for file j c h)))
        (reads_leave seen only_now old new read)

    pub leaves_still : (old new : Warehouse D seen) (state : State) → OnlyRead seen old.fetch.disk new.fetch.disk
        → Leaves old new state
    leaves_still old new state read = record {
      each = λ file told only filed. stays_read old.fetch.disk new.fetch.disk file old.journal old.catalog state read only
          (filed.each file told);
    }

    -- a file from which it starts shows what is filed
    pub leaves_shown : (old new : Warehouse D seen) (state : State) → (ShowsAll old → Leaves old new state)
        → Leaves old new state
    leaves_shown old new state leaves = record {
      each = λ file told only filed.
          let shown : ShowsAll old = shows_told (seen.bytes old.fetch.disk) file old.journal old.catalog told filed in
          (leaves shown).each file told only filed;
    }

    pub leaves_behind : (old mid new : Warehouse D seen) (state : State) → IsOnlyRead old mid → Leaves mid new state
        → Leaves old new state
    leaves_behind old mid new state read leaves = record {
      each = λ file told only filed.
          let first = stays_read old.fetch.disk mid.fetch.disk file old.journal old.catalog state read.disk only
          (filed.each file told) in
          let only_mid : Only file (seen.may_leave mid.fetch.disk) =
          λ image left. only image (read.disk.images image left) in
          let second = leaves.each file (read.disk.bytes ∙ told) only_mid (filed_behind old mid read filed) in
          both seen.moment seen.left_since old.fetch.disk mid.fetch.disk new.fetch.disk
          (StandsForEither (state_of old.catalog) state) first
          (subst (λ (c : Catalog). LeavesOnly seen.moment seen.left_since mid.fetch.disk new.fetch.disk
          (StandsForEither (state_of c) state)) read.catalog second);
    }
