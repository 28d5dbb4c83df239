-- What a crash leaves goes with what was written.
--     none_survives       no command was carried out
--     halt_survives       a command was begun, and a front of its reply was written
--     survives_more       behind the first events
use Rattle.std.proofs.Common.{◌≡◌, ◌⊎◌, inl, inr, ℕ, ◌+◌, ◌<◌, ◌≤◌, List, [], ◌∷◌, ◌++◌, length, refl, sym, ap, subst}
use Rattle.std.proofs.Common.{◌∙◌, arith, length-append}
use Rattle.std.proofs.lemmas.Bool.{cases_lt}
use Rattle.wh_reply.specs.Reply.{print}
use Rattle.wh_state.specs.File.{Stands}
use Rattle.wh_machine.specs.Outcome.{Machine, rest_of}
use Rattle.wh_machine.specs.Step.{Event, step, after, text}
use Rattle.wh_machine.specs.Stop.{whole_replies, most_events, StandsWithin}
use Rattle.wh_machine.proofs.ReplyLaws.{whole_replies_of, no_whole_reply, few_replies}
use Rattle.wh_world.specs.declared.disk.Disk.{Ghosts}
use Rattle.wh_journal.specs.Crash.{LeavesOnly}
use Rattle.wh_journal.proofs.CrashLemmas.{both, weaker}
use Rattle.wh_engine.specs.Leaves.{StandsForEither}
use Rattle.wh_shell.specs.Crash.{Survives}
use Rattle.wh_shell.proofs.Within.{within_front, within_more, within_wider, within_none}

-- ---- replies

-- the whole replies to the first events, and those behind them
whole_more : (start now : Machine) (es done others : List Event) (n : ℕ) → done ++ others ≡ es →
    now ≡ after start done →
    whole_replies start es (length (text start done) + n) ≡ length done + whole_replies now others n
whole_more start now es done others n parts machine =
    ap (λ fs. whole_replies start fs (length (text start done) + n)) (sym parts)
    ∙ whole_replies_of start done others n
    ∙ ap (λ m. length done + whole_replies m others n) (sym machine)

-- and with one event more
most_more : (start now : Machine) (es done others : List Event) (n : ℕ) → done ++ others ≡ es → now ≡ after start done →
    most_events start es (length (text start done) + n) ≡ length done + most_events now others n
most_more start now es done others n parts machine =
    let size : length es ≡ length done + length others = ap length (sym parts) ∙ length-append done others in
    let whole = whole_more start now es done others n parts machine in
    omega arith

-- a front of a reply has at most one whole reply, and an empty one none
whole_in_front : (m : Machine) (event : Event) (others : List Event) (front rest : List ℕ) →
    front ++ rest ≡ print (step m event).1 →
    whole_replies m (event ∷ others) (length front) ≤ 1
whole_in_front m event others front rest parts = by_length (cases_lt (length front) (length (print (step m event).1)))
  where
    size : length (print (step m event).1) ≡ length front + length rest
    size = ap length (sym parts) ∙ length-append front rest

    by_length : (length front < length (print (step m event).1)) ⊎ (length (print (step m event).1) ≤ length front) →
        whole_replies m (event ∷ others) (length front) ≤ 1
    by_length (inl short) = omega (arith, few_replies m event others (length front) short)
    by_length (inr long) =
        let all : length front ≡ length (text m (event ∷ [])) + 0 =
        omega (arith, size, length-append (print (step m event).1) []) in
        let whole = whole_more m (step m event).0 (event ∷ others) (event ∷ []) others 0 refl refl in
        omega (arith, ap (whole_replies m (event ∷ others)) all, whole, no_whole_reply (step m event).0 others)

-- ---- files

-- of one event, begun: what was committed before it, or after it
begun : (m : Machine) (event : Event) (others : List Event) (n : ℕ) (image : List ℕ) →
    StandsForEither m.state (step m event).0.state image →
    StandsWithin m (event ∷ others) 0 (most_events m (event ∷ others) n) image
begun m event others n image (inl is) =
    within_front m (event ∷ others) [] (event ∷ others) 0 (most_events m (event ∷ others) n) image refl (omega arith)
    (omega arith) is
begun m event others n image (inr is) =
    within_front m (event ∷ others) (event ∷ []) others 0 (most_events m (event ∷ others) n) image refl (omega arith)
    (omega arith) is

-- and ended, with a front of its reply
ended : (m : Machine) (event : Event) (others : List Event) (front rest : List ℕ) (image : List ℕ) →
    front ++ rest ≡ print (step m event).1 →
    ((front ≡ []) × Stands image (rest_of m)) ⊎ Stands image (rest_of (step m event).0) →
    StandsWithin m (event ∷ others) (whole_replies m (event ∷ others) (length front))
    (most_events m (event ∷ others) (length front)) image
ended m event others front rest image parts (inl is) =
    let none : whole_replies m (event ∷ others) (length front) ≡ 0 =
    ap (λ (l : List ℕ). whole_replies m (event ∷ others) (length l)) is.0 ∙ no_whole_reply m (event ∷ others) in
    within_front m (event ∷ others) [] (event ∷ others) (whole_replies m (event ∷ others) (length front))
    (most_events m (event ∷ others) (length front)) image refl (omega arith) (omega arith) is.1
ended m event others front rest image parts (inr is) =
    within_front m (event ∷ others) (event ∷ []) others (whole_replies m (event ∷ others) (length front))
    (most_events m (event ∷ others) (length front)) image refl (whole_in_front m event others front rest parts)
    (omega arith) is

module _ {D : Type 0} (d : Ghosts D) where
  -- a command was begun, and a front of its reply was written
  pub halt_survives : (old new : D) (m : Machine) (event : Event) (others : List Event) (front rest : List ℕ) →
      front ++ rest ≡ print (step m event).1 →
      LeavesOnly d.moment d.left_since old new (StandsForEither m.state (step m event).0.state) →
      ((image : List ℕ) → d.may_leave new image →
      ((front ≡ []) × Stands image (rest_of m)) ⊎ Stands image (rest_of (step m event).0)) →
      Survives d old new m (event ∷ others) (length front)
  halt_survives old new m event others front rest parts run leaves = record {
    any_moment =
        weaker d.moment d.left_since old new (StandsForEither m.state (step m event).0.state)
        (StandsWithin m (event ∷ others) 0 (most_events m (event ∷ others) (length front)))
        (begun m event others (length front)) run;
    at_exit = λ image left. ended m event others front rest image parts (leaves image left);
  }

  -- a run behind the first events
  pub survives_more : (first last new : D) (start now : Machine) (es done others : List Event) (n : ℕ) →
      done ++ others ≡ es → now ≡ after start done →
      LeavesOnly d.moment d.left_since first last (StandsWithin start es 0 (length done)) →
      Survives d last new now others n →
      Survives d first new start es (length (text start done) + n)
  survives_more first last new start now es done others n parts machine so_far survives =
      let all : ℕ = length (text start done) + n in
      let whole = whole_more start now es done others n parts machine in
      let most = most_more start now es done others n parts machine in
      let further : (least : ℕ) (image : List ℕ) → StandsWithin now others least (most_events now others n) image →
      StandsWithin start es (length done + least) (most_events start es all) image =
      λ least image within. within_more start es done others least (most_events now others n) (length done + least)
      (most_events start es all) image parts
      (omega arith) (omega (arith, most))
      (subst (λ (m : Machine). StandsWithin m others least (most_events now others n) image) machine within) in
      record {
        any_moment = both d.moment d.left_since first last new (StandsWithin start es 0 (most_events start es all))
            (weaker d.moment d.left_since first last (StandsWithin start es 0 (length done))
            (StandsWithin start es 0 (most_events start es all))
            (λ image within. within_wider start es 0 (length done) 0 (most_events start es all) (omega arith)
            (omega (arith, most)) image within) so_far)
            (weaker d.moment d.left_since last new (StandsWithin now others 0 (most_events now others n))
            (StandsWithin start es 0 (most_events start es all))
            (λ image within. within_wider start es (length done + 0) (most_events start es all) 0
            (most_events start es all) (omega arith) (omega arith) image
            (further 0 image within)) survives.any_moment);
        at_exit =
            λ image left. within_wider start es (length done + whole_replies now others n) (most_events start es all)
            (whole_replies start es all) (most_events start es all) (omega (arith, whole)) (omega arith) image
            (further (whole_replies now others n) image (survives.at_exit image left));
      }

  module _ (counts_now : (disk : D) (t : ℕ) (image : List ℕ) → t ≤ d.moment disk → d.may_leave disk image →
      d.left_since disk t image) where
    -- what a crash now leaves is among what one since an earlier moment may have left
    pub leaves_now : (old new : D) (P : List ℕ → Type 0) → LeavesOnly d.moment d.left_since old new P →
        (image : List ℕ) → d.may_leave new image → P image
    leaves_now old new P run image left = run.each image (counts_now new (d.moment old) image run.later left)

    -- no command was carried out
    pub none_survives : (old new : D) (m : Machine) (es : List Event) →
        LeavesOnly d.moment d.left_since old new (StandsForEither m.state m.state) →
        Survives d old new m es 0
    none_survives old new m es run = record {
      any_moment =
          weaker d.moment d.left_since old new (StandsForEither m.state m.state)
          (StandsWithin m es 0 (most_events m es 0))
          (λ image is. within_none m es 0 (most_events m es 0) image (omega arith) is) run;
      at_exit =
          λ image left. within_none m es (whole_replies m es 0) (most_events m es 0) image
          (omega (arith, no_whole_reply m es))
          (leaves_now old new (StandsForEither m.state m.state) run image left);
    }
