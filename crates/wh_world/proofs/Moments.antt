-- What one more event makes of the images.
use Rattle.std.proofs.Common.{◌≡◌, ◌⊎◌, inl, inr, ℕ, suc, ◌+◌, ◌-◌, ◌≤◌, List, ◌∷◌, ◌++◌, length, take, drop, sym, ◌∙◌}
use Rattle.std.proofs.Common.{ap, subst, arith, length-append, length-drop}
use Rattle.std.proofs.lemmas.Bool.{cases_eq}
use Rattle.std.proofs.lemmas.List.{append_assoc, length-take-le, take_at, drop_at}
use Rattle.wh_world.specs.Bytes.{written, Torn}
use Rattle.wh_world.specs.Crash.{Elapses, Follows, NoOthers}
use Rattle.wh_world.specs.Events.{Event, wrote, synced, IsImage, WasImage, AfterTorn}
use Rattle.wh_world.specs.Images.{is_shown}
use Rattle.wh_world.specs.MemDisk.{DiskState, content_of, images_of, logged, torn, GoesOn}

-- a logged call is one moment more
elapses_logged : (first : List ℕ) (past : List Event) (event : Event)
    → Elapses (length past) (length (event ∷ past)) (WasImage first past)
    (WasImage first (event ∷ past)) (IsImage first (event ∷ past))
elapses_logged first past event = record {
  later = omega arith;
  nothing_else = λ moment image le was. split moment image was (cases_eq was.0 (length (event ∷ past)));
  keeps = λ moment image le was. (
    was.0,
    was.1,
    omega (arith, was.2),
    subst (λ (n : ℕ). IsImage first (drop n (event ∷ past)) image) (more was.0 was.2) was.3,
  );
}
  where
    more : (k : ℕ) → k ≤ length past → suc (length past - k) ≡ length (event ∷ past) - k
    more k le = omega arith

    split : (moment : ℕ) (image : List ℕ) (was : WasImage first (event ∷ past) moment image)
        → (was.0 ≡ length (event ∷ past)) ⊎ (was.0 ≡ length (event ∷ past) → ⊥)
        → WasImage first past moment image ⊎ IsImage first (event ∷ past) image
    split moment image was (inl last) =
        let none : length (event ∷ past) - was.0 ≡ 0 = omega (arith, last) in
        inr (subst (λ (n : ℕ). IsImage first (drop n (event ∷ past)) image) none was.3)
    split moment image was (inr earlier) =
        let le : was.0 ≤ length past = omega (arith, was.2, earlier) in
        let still = subst (λ (n : ℕ). IsImage first (drop n (event ∷ past)) image) (sym (more was.0 le)) was.3 in
        inl (was.0, was.1, le, still)

pub goes_on : (old new : DiskState) (event : Event) (n : ℕ) → new ≡ logged old event n → GoesOn old new
goes_on old new event n is = rw is (elapses_logged old.first old.past event)

pub goes_on_torn : (old new : DiskState) (event : Event) → new ≡ torn old event → GoesOn old new
goes_on_torn old new event is = rw is (elapses_logged old.first old.past event)

-- a write at a place of the file leaves nothing else than a torn one may
pub written_torn : (at : ℕ) (old piece : List ℕ) → at ≤ length old → Torn at (length piece) old (written old at piece)
written_torn at old piece within =
    let n = length piece in
    let rest = drop (at + n) old in
    let front : length (take at old) ≡ at = length-take-le at old within in
    let size : length (written old at piece) ≡ at + n + (length old - (at + n)) =
    omega (
      arith,
      front,
      length-append (take at old) (piece ++ rest),
      length-append piece rest,
      length-drop (at + n) old,
    ) in
    record {
      before = take_at (take at old) (piece ++ rest) at front;
      behind = ap (λ (l : List ℕ). drop (at + n) l) (sym (append_assoc (take at old) piece rest))
          ∙ drop_at (take at old ++ piece) rest (at + n) (omega (arith, front, length-append (take at old) piece));
      no_shorter = omega (arith, size);
      no_longer = omega (arith, size, within);
    }

pub follows_wrote : (old new : DiskState) (at : ℕ) (piece : List ℕ) → at ≤ length (content_of old)
    → new ≡ logged old (wrote at piece) (length piece)
    → Follows (Torn at (length piece)) (images_of old) (images_of new)
follows_wrote old new at piece within is = rw is (λ image left. from image left)
  where
    from : (image : List ℕ) → IsImage old.first (wrote at piece ∷ old.past) image
        → AfterTorn (images_of old) at (length piece) image
    from image (inl whole) =
        let torn_so = rw (← whole) at (written_torn at (content_of old) piece within) in
        (content_of old, is_shown old.first old.past, torn_so)
    from image (inr cut) = cut

-- after a sync there is the image that a read gives
pub no_others : (old new : DiskState) → new ≡ logged old synced 0
    → NoOthers (images_of old) (images_of new)
no_others old new is =
    rw is (λ image same. subst (images_of old) (sym same) (is_shown old.first old.past))
