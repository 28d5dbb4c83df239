-- Payloads that are replayed one after the other.
--     replayed_more, replayed_all     one payload more, and all of them
--     stray_found                     one that carries none, behind those that were replayed
--     payload_at                      where the one at a place stands, whatever follows the records
--     still_listed, still_shown       over bytes that stay
--     reads_none, reads_then          no call of the disk, and one behind another
use Rattle.std.proofs.Common.{◌≡◌, ℕ, suc, ◌+◌, ◌≤◌, List, [], ◌∷◌, ◌++◌, length, take, drop, Option}
use Rattle.std.proofs.Common.{Some, slice_get, Result, Ok, Err, refl, sym, ◌∙◌, subst, ap, arith}
use Rattle.std.specs.Result.{OnOk}
use Rattle.std.proofs.lemmas.List.{map-append, take_all, take_more, drop_more, take-append-drop}
use Rattle.std.proofs.lemmas.Option.{slice_get_within, get_or_from_slice_get}
use Rattle.wh_state.specs.Stored.{Stored, first_stored}
use Rattle.wh_state.specs.Commit.{Leads}
use Rattle.wh_state.specs.Spelling.{payload_of, IsCommit}
use Rattle.wh_frame.specs.File.{records_of}
use Rattle.wh_filed.specs.Filed.{Filed}
use Rattle.wh_journal.specs.Places.{places_from}
use Rattle.wh_journal.specs.Journal.{Lists, count_of}
use Rattle.wh_journal.specs.declared.journal.Journal.{Journal}
use Rattle.wh_journal.proofs.CrashLemmas.{started, reads_on}
use Rattle.wh_world.specs.declared.disk.Disk.{Ghosts}
use Rattle.wh_engine.specs.Replay.{IsListed, Replays, StraysAt, Carries, CarriesAt, CarriesNoneAt, ShowsListed}
use Rattle.wh_engine.specs.Replay.{OnlyReads}
use Rattle.wh_engine.proofs.PlaceLemmas.{payload_stands}
use Rattle.wh_decide.proofs.ListLemmas.{all_more, leads_then}

pub replays_none : (first : Stored) → Replays first [] first
replays_none first = record { commits = []; good = tt; spelled = refl; leads = refl }

replays_more : (first here next : Stored) (before : List (List ℕ)) (payload : List ℕ) → Replays first before here
    → Carries payload here next
    → Replays first (before ++ payload ∷ []) next
replays_more first here next before payload h one = record {
  commits = h.commits ++ one.commit ∷ [];
  good = all_more IsCommit h.commits one.commit h.good one.good;
  spelled = map-append payload_of h.commits (one.commit ∷ [])
      ∙ ap (λ (ps : List (List ℕ)). ps ++ payload_of one.commit ∷ []) h.spelled
      ∙ ap (λ (p : List ℕ). before ++ p ∷ []) (sym one.spelled);
  leads = subst (Leads first (h.commits ++ one.commit ∷ [])) (sym one.leaves)
      (leads_then first h.commits here one.commit h.leads one.applies);
}

-- ---- the payload at a place, and those before and behind it

take_get : (xs : List (List ℕ)) (i : ℕ) (x : List ℕ) → slice_get xs i ≡ Some x → take (i + 1) xs ≡ take i xs ++ x ∷ []
take_get xs i x e =
    take_more xs i x (slice_get_within xs i x e)
    ∙ ap (λ (y : List ℕ). take i xs ++ y ∷ []) (get_or_from_slice_get xs i x x e)

split_get : (xs : List (List ℕ)) (i : ℕ) (x : List ℕ) → slice_get xs i ≡ Some x → xs ≡ take i xs ++ x ∷ drop (i + 1) xs
split_get xs i x e =
    sym (take-append-drop i xs)
    ∙ ap (λ (l : List (List ℕ)). take i xs ++ l) (drop_more xs i x (slice_get_within xs i x e))
    ∙ ap (λ (y : List ℕ). take i xs ++ y ∷ drop (i + 1) xs) (get_or_from_slice_get xs i x x e)

pub replayed_more : (all : List (List ℕ)) (here next : Stored) (at : ℕ) → Replays first_stored (take at all) here
    → CarriesAt all at here next → Replays first_stored (take (at + 1) all) next
replayed_more all here next at h one =
    subst (λ (ps : List (List ℕ)). Replays first_stored ps next) (sym (take_get all at one.payload one.found))
    (replays_more first_stored here next (take at all) one.payload h one.carries)

pub stray_found : (all : List (List ℕ)) (here : Stored) (at place : ℕ) → Replays first_stored (take at all) here
    → CarriesNoneAt all at here place → StraysAt all place
stray_found all here at place h stray = record {
  before = take at all;
  payload = stray.payload;
  behind = drop (at + 1) all;
  split = split_get all at stray.payload stray.found;
  reached = here;
  replayed = h;
  none = stray.none;
  place = stray.place;
}

pub payload_at : (all : List (List ℕ)) (at position : ℕ) (payload image : List ℕ) → slice_get all at ≡ Some payload
    → position ≡ length (records_of (take at all)) + 9
    → take (length (records_of all)) image ≡ records_of all
    → (rest : List ℕ) × (drop position image ≡ payload ++ rest)
payload_at all at position payload image found place same =
    let around = payload_stands (take at all) (drop (at + 1) all) payload image
    (subst (λ (ps : List (List ℕ)). take (length (records_of ps)) image ≡ records_of ps)
    (split_get all at payload found) same) in
    (around.0, subst (λ (n : ℕ). drop n image ≡ payload ++ around.0) (sym place) around.1)

length-places : (at : ℕ) (payloads : List (List ℕ)) → length (places_from at payloads) ≡ length payloads
length-places at [] = refl
length-places at (p ∷ ps) = ap suc (length-places (at + length p + 9) ps)

pub replayed_all : (all : List (List ℕ)) (j : Journal) (n : ℕ) (here : Stored) → Lists all j → count_of j ≤ n
    → Replays first_stored (take n all) here
    → Replays first_stored all here
replayed_all all j n here h enough replayed =
    let as_many : count_of j ≡ length all = ap length h.places ∙ length-places 16 all in
    subst (λ (ps : List (List ℕ)). Replays first_stored ps here) (take_all n all (omega arith)) replayed

pub on_ok : {T E X Y : Type 0} (r : Result T E) → (X → Y) → OnOk r X → OnOk r Y
on_ok (Ok x) f h = f h
on_ok (Err e) f h = tt

-- ---- a disk that is only read

pub still_listed : (old new : Option (List ℕ)) (j : Journal) (payloads : List (List ℕ)) → new ≡ old
    → IsListed old j payloads → IsListed new j payloads
still_listed old new j payloads same h =
    record { file = h.file; rest = h.rest; told = same ∙ h.told; begins = h.begins; lists = h.lists }

pub still_shown : (old new : Option (List ℕ)) (j : Journal) (filed : List Filed) → new ≡ old → ShowsListed old j filed
    → ShowsListed new j filed
still_shown old new j filed same shown payloads listed =
    shown payloads (still_listed new old j payloads (sym same) listed)

module _ {D : Type 0} (seen : Ghosts D) (only_now : (disk : D) (image : List ℕ)
    → seen.left_since disk (seen.moment disk) image → seen.may_leave disk image) where
  pub reads_none : (disk : D) → OnlyReads seen disk disk
  reads_none disk = record {
    same = (refl, refl);
    crash = λ image left. left;
    any_moment = started seen.moment seen.left_since seen.may_leave only_now disk;
  }

  pub reads_then : (old mid new : D) → OnlyReads seen old mid → OnlyReads seen mid new → OnlyReads seen old new
  reads_then old mid new first second = record {
    same = (second.same.0 ∙ first.same.0, second.same.1 ∙ first.same.1);
    crash = λ image left. first.crash image (second.crash image left);
    any_moment = reads_on seen.moment seen.left_since seen.may_leave only_now old mid new
        first.crash first.any_moment second.any_moment;
  }
