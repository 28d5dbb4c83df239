-- What a walk over the log of a disk in memory makes of an image.
use Rattle.std.proofs.Common.{◌≡◌, inr, ℕ, ◌+◌, ◌-◌, ◌<◌, ◌≤◌, cond, List, [], ◌∷◌, Option, length, take, drop}
use Rattle.std.proofs.Common.{count_by, get_or, refl, sym, ◌∙◌, ap, subst, arith, length-drop, length-take-le}
use Rattle.std.proofs.lemmas.List.{drop-drop, drop_more, take_rest}
use Rattle.std.proofs.lemmas.List.Sums.{sum_by-cons}
use Rattle.wh_world.specs.Bytes.{written, Torn}
use Rattle.wh_world.specs.Events.{Event, wrote, tore, synced, content, IsImage}
use Rattle.wh_world.specs.Images.{is_shown}
use Rattle.wh_world.specs.Cut.{unsynced, image_at, cut_call}
use Rattle.wh_world.specs.Logged.{events, bytes_written, is_sync, kept_of, size_of, event_of, Tears}
use Rattle.wh_world.specs.MemDisk.{DiskState, content_of, images_of}
use Rattle.wh_world.specs.declared.logged.Logged.{Logged}
use Rattle.wh_world.specs.declared.logged.Logged.TheVariants.{Wrote, Tore, Synced}
use Rattle.wh_world.proofs.Moments.{written_torn}

-- a write of part of a range tears it
pub part_torn : (at n : ℕ) (old piece : List ℕ) → at ≤ length old → length piece ≤ n
    → Torn at n old (written old at piece)
part_torn at n old piece within short =
    let torn = written_torn at old piece within in
    let m = length piece in
    let new = written old at piece in
    let further : (l : List ℕ) → drop (n - m) (drop (at + m) l) ≡ drop (at + n) l =
    λ l. drop-drop (n - m) (at + m) l ∙ ap (λ (k : ℕ). drop k l) (omega arith) in
    record {
      before = torn.before;
      behind = sym (further new) ∙ ap (λ (l : List ℕ). drop (n - m) l) torn.behind ∙ further old;
      no_shorter = torn.no_shorter;
      no_longer = omega (arith, torn.no_longer);
    }

-- A walk over the calls of a log: the image after those of the past, the bytes for the later ones,
-- and what is left of the cut. While syncs are to come the image is what a read gave.
pub record Walks (first image rest : List ℕ) (later : List Logged) (syncs left_of most : ℕ)
    (fill : Option ℕ) (all : List Event) : Type 0 where
  pub past : List Event
  pub leads : events past later rest ≡ all
  pub spelled : bytes_written later ≤ length rest
  pub counted : count_by is_sync later ≡ syncs
  pub left : IsImage first past image
  pub whole : 0 < syncs → image ≡ content first past
  pub uncut : 0 < syncs → left_of ≡ most
  pub there : syncs ≡ 0 → image ≡ image_at first past most fill
  pub cut : syncs ≡ 0 → left_of ≡ most - unsynced past

pub begins : (first image rest : List ℕ) (log : List Logged) (syncs most : ℕ) (fill : Option ℕ)
    → image ≡ first → bytes_written log ≤ length rest → syncs ≡ count_by is_sync log
    → Walks first image rest log syncs most most fill (events [] log rest)
begins first image rest log syncs most fill same spelled counted = record {
  past = [];
  leads = refl;
  spelled = spelled;
  counted = sym counted;
  left = same;
  whole = λ _. same;
  uncut = λ _. refl;
  there = λ _. same;
  cut = λ _. omega arith;
}

-- the next call takes its bytes
leads_on : (past : List Event) (call : Logged) (later : List Logged) (rest : List ℕ)
    → events past (call ∷ later) rest
    ≡ events (event_of call (take (kept_of call) rest) ∷ past) later (drop (kept_of call) rest)
leads_on past (Wrote at n) later rest = refl
leads_on past (Tore at n) later rest = refl
leads_on past Synced later rest = refl

bytes_written-cons : (call : Logged) (later : List Logged)
    → bytes_written (call ∷ later) ≡ kept_of call + bytes_written later
bytes_written-cons (Wrote at n) later = refl
bytes_written-cons (Tore at n) later = omega arith
bytes_written-cons Synced later = omega arith

-- what a read gives after one more event
content-cons : (first : List ℕ) (past : List Event) (event : Event)
    → content first (event ∷ past) ≡ content (content first past) (event ∷ [])
content-cons first past (wrote at piece) = refl
content-cons first past (tore at n) = refl
content-cons first past synced = refl

-- how many syncs a call is
abbrev marks : Logged → ℕ
marks call = cond (is_sync call) 1 0

count-cons : (call : Logged) (later : List Logged)
    → count_by is_sync (call ∷ later) ≡ marks call + count_by is_sync later
count-cons call later = sum_by-cons marks call later

-- the last sync brings all that was written, and none is unsynced after it
at_last : (first piece : List ℕ) (past : List Event) (call : Logged) (syncs fewer most : ℕ)
    (fill : Option ℕ) → 0 < syncs → fewer + marks call ≡ syncs → fewer ≡ 0
    → (content first (event_of call piece ∷ past) ≡ image_at first (event_of call piece ∷ past) most fill)
    × (unsynced (event_of call piece ∷ past) ≡ 0)
at_last first piece past (Wrote at n) syncs fewer most fill some is none = absurd (omega arith)
at_last first piece past (Tore at n) syncs fewer most fill some is none = absurd (omega arith)
at_last first piece past Synced syncs fewer most fill some is none = (refl, refl)

-- before the last sync a call is done whole
pub replayed : (first image next rest : List ℕ) (call : Logged) (later : List Logged)
    (syncs fewer cut most : ℕ) (fill : Option ℕ) (all : List Event)
    → Walks first image rest (call ∷ later) syncs cut most fill all
    → 0 < syncs → fewer + marks call ≡ syncs
    → next ≡ content image (event_of call (take (kept_of call) rest) ∷ [])
    → Walks first next (drop (kept_of call) rest) later fewer cut most fill all
replayed first image next rest call later syncs fewer cut most fill all walks some less is =
    let piece : List ℕ = take (kept_of call) rest in
    let after : List Event = event_of call piece ∷ walks.past in
    let shown : next ≡ content first after =
    is ∙ ap (λ (l : List ℕ). content l (event_of call piece ∷ [])) (walks.whole some)
    ∙ sym (content-cons first walks.past (event_of call piece)) in
    let last = at_last first piece walks.past call syncs fewer most fill some less in
    record {
      past = after;
      leads = sym (leads_on walks.past call later rest) ∙ walks.leads;
      spelled = omega (arith, bytes_written-cons call later, length-drop (kept_of call) rest);
      counted = omega (arith, walks.counted, count-cons call later);
      left = subst (λ (l : List ℕ). IsImage first after l) (sym shown) (is_shown first after);
      whole = λ _. shown;
      uncut = λ _. walks.uncut some;
      there = λ none. shown ∙ (last none).0;
      cut = λ none. omega (arith, walks.uncut some, (last none).1);
    }

-- a write that is torn leaves an image
left_torn : (first image next piece : List ℕ) (past : List Event) (call : Logged)
    → marks call ≡ 0 → length piece ≡ kept_of call → IsImage first past image
    → Tears call image next → IsImage first (event_of call piece ∷ past) next
left_torn first image next piece past (Wrote at n) unsynced size left torn =
    inr (image, left, subst (λ (m : ℕ). Torn at m image next) (sym size) torn)
left_torn first image next piece past (Tore at n) unsynced size left torn = (image, left, torn)
left_torn first image next piece past Synced unsynced size left torn = absurd (omega arith)

-- and the image of the cut goes on by what there is of the call
there_on : (first image piece : List ℕ) (past : List Event) (call : Logged) (cut most : ℕ)
    (fill : Option ℕ) → marks call ≡ 0 → length piece ≡ kept_of call
    → image ≡ image_at first past most fill → cut ≡ most - unsynced past
    → cut_call call piece image cut fill ≡ image_at first (event_of call piece ∷ past) most fill
there_on first image piece past (Wrote at n) cut most fill unsynced_call size is same =
    rw (is, same, size) refl
there_on first image piece past (Tore at n) cut most fill unsynced_call size is same =
    rw (is, same) refl
there_on first image piece past Synced cut most fill unsynced_call size is same = absurd (omega arith)

-- so does what is left of the cut
cut_on : (piece : List ℕ) (past : List Event) (call : Logged) (cut most : ℕ) → marks call ≡ 0
    → length piece ≡ kept_of call → cut ≡ most - unsynced past
    → cut - size_of call ≡ most - unsynced (event_of call piece ∷ past)
cut_on piece past (Wrote at n) cut most unsynced_call size same = omega arith
cut_on piece past (Tore at n) cut most unsynced_call size same = omega arith
cut_on piece past Synced cut most unsynced_call size same = absurd (omega arith)

-- behind the last sync a call is torn
pub torn_on : (first image next rest : List ℕ) (call : Logged) (later : List Logged)
    (syncs cut less most : ℕ) (fill : Option ℕ) (all : List Event)
    → Walks first image rest (call ∷ later) syncs cut most fill all
    → syncs ≤ 0 → Tears call image next
    → next ≡ cut_call call (take (kept_of call) rest) image cut fill → less ≡ cut - size_of call
    → Walks first next (drop (kept_of call) rest) later syncs less most fill all
torn_on first image next rest call later syncs cut less most fill all walks none torn is spent =
    let piece : List ℕ = take (kept_of call) rest in
    let unmarked : marks call ≡ 0 = omega (arith, walks.counted, count-cons call later) in
    let size : length piece ≡ kept_of call =
    length-take-le (kept_of call) rest (omega (arith, bytes_written-cons call later)) in
    record {
      past = event_of call piece ∷ walks.past;
      leads = sym (leads_on walks.past call later rest) ∙ walks.leads;
      spelled = omega (arith, bytes_written-cons call later, length-drop (kept_of call) rest);
      counted = omega (arith, walks.counted, count-cons call later);
      left = left_torn first image next piece walks.past call unmarked size walks.left torn;
      whole = λ some. absurd (omega (arith, some));
      uncut = λ some. absurd (omega (arith, some));
      there = λ zero. is ∙ there_on first image piece walks.past call cut most fill unmarked size
          (walks.there zero) (walks.cut zero);
      cut = λ zero. spent ∙ cut_on piece walks.past call cut most unmarked size (walks.cut zero);
    }

-- where no call is left the image is one of those that the whole log leaves
pub ended : (first image rest : List ℕ) (syncs cut most : ℕ) (fill : Option ℕ) (all : List Event)
    → Walks first image rest [] syncs cut most fill all → IsImage first all image
ended first image rest syncs cut most fill all walks =
    subst (λ (past : List Event). IsImage first past image) walks.leads walks.left

pub ended_there : (first image rest : List ℕ) (syncs cut most : ℕ) (fill : Option ℕ)
    (all : List Event) → Walks first image rest [] syncs cut most fill all
    → image ≡ image_at first all most fill
ended_there first image rest syncs cut most fill all walks =
    walks.there (sym walks.counted)
    ∙ ap (λ (past : List Event). image_at first past most fill) walks.leads

-- the walk at the next call of the log
pub at_next : (first image rest : List ℕ) (log : List Logged) (i syncs cut most : ℕ) (fill : Option ℕ)
    (all : List Event) (call : Logged)
    → Walks first image rest (drop i log) syncs cut most fill all → i < length log
    → Walks first image rest (get_or log i call ∷ drop (i + 1) log) syncs cut most fill all
at_next first image rest log i syncs cut most fill all call walks within =
    subst (λ (later : List Logged). Walks first image rest later syncs cut most fill all)
    (drop_more log i call within) walks

-- its bytes are there
pub fits : (first image rest : List ℕ) (call : Logged) (later : List Logged) (syncs cut most : ℕ)
    (fill : Option ℕ) (all : List Event)
    → Walks first image rest (call ∷ later) syncs cut most fill all → kept_of call ≤ length rest
fits first image rest call later syncs cut most fill all walks =
    omega (arith, bytes_written-cons call later)

-- the same bytes, spelled otherwise
pub with_rest : (first image rest further : List ℕ) (later : List Logged) (syncs cut most : ℕ)
    (fill : Option ℕ) (all : List Event) → further ≡ rest
    → Walks first image rest later syncs cut most fill all
    → Walks first image further later syncs cut most fill all
with_rest first image rest further later syncs cut most fill all same walks =
    subst (λ (l : List ℕ). Walks first image l later syncs cut most fill all) (sym same) walks

-- what the code leaves of the bytes
pub rest_is : (rest : List ℕ) (n k : ℕ) → n ≡ k → k ≤ length rest
    → take (length rest - length (take n rest)) (drop (length (take n rest)) rest) ≡ drop k rest
rest_is rest n k same within =
    let size : length (take n rest) ≡ k = length-take-le n rest (omega arith) ∙ same in
    rw size (take_rest rest k)

-- what a read gives is an image
pub shown_image : (disk : DiskState) (bytes : List ℕ) → bytes ≡ content_of disk
    → images_of disk bytes
shown_image disk bytes same = subst (images_of disk) (sym same) (is_shown disk.first disk.past)
