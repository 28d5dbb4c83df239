-- What an image stands for within a run of events.
--     within_front     what was committed after the first events
--     within_more      behind the first events, so many more
--     within_none      no event was carried out
--     within_either    the first events, or one more
use Rattle.std.proofs.Common.{◌≡◌, inl, inr, ℕ, ◌+◌, ◌≤◌, List, [], ◌∷◌, ◌++◌, length, take, refl, sym, ap, subst, ◌∙◌}
use Rattle.std.proofs.Common.{append_assoc, arith, length-append}
use Rattle.std.proofs.Math.Seq.{take-append_seam, take-append-add}
use Rattle.wh_state.specs.File.{Stands}
use Rattle.wh_state.specs.Sound.{Sound}
use Rattle.wh_state.proofs.SoundLaws.{sound_rest}
use Rattle.wh_machine.specs.Outcome.{Machine, rest_of}
use Rattle.wh_machine.specs.Step.{Event, step, after}
use Rattle.wh_machine.specs.Stop.{committed_after, StandsWithin}
use Rattle.wh_machine.proofs.ReplyLaws.{after_append}
use Rattle.wh_machine.proofs.SoundLaws.{sound_after}
use Rattle.wh_commit_parse.proofs.FileLaws.{file_fixes_state}
use Rattle.wh_engine.specs.Leaves.{StandsForEither}

-- what was committed after some number of events
counted : (start : Machine) (es : List Event) (count least most : ℕ) (image : List ℕ) → least ≤ count → count ≤ most →
    Stands image (committed_after start es count) → StandsWithin start es least most image
counted start es count least most image low high is = record {
  count = count;
  at_least = low;
  at_most = high;
  stands = is;
  -- an image stands for one state alone
  sound = λ sound state stands. subst Sound (file_fixes_state image (committed_after start es count) state is stands)
      (sound_rest (after start (take count es)).state (sound_after start (take count es) sound).state);
}

-- what was committed after the first events
pub within_front : (start : Machine) (es done others : List Event) (least most : ℕ) (image : List ℕ) →
    done ++ others ≡ es →
    least ≤ length done → length done ≤ most → Stands image (rest_of (after start done)) →
    StandsWithin start es least most image
within_front start es done others least most image parts low high is =
    let first : take (length done) es ≡ done = ap (take (length done)) (sym parts) ∙ take-append_seam done others in
    counted start es (length done) least most image low high
    (subst (λ (fs : List Event). Stands image (rest_of (after start fs))) (sym first) is)

-- what is committed after so many more events
pub within_more : (start : Machine) (es done others : List Event) (least most low high : ℕ) (image : List ℕ) →
    done ++ others ≡ es →
    low ≤ length done + least → length done + most ≤ high → StandsWithin (after start done) others least most image →
    StandsWithin start es low high image
within_more start es done others least most low high image parts lower higher within =
    let first : take (length done + within.count) es ≡ done ++ take within.count others =
    ap (take (length done + within.count)) (sym parts) ∙ take-append-add done others within.count in
    let same : after start (take (length done + within.count) es)
    ≡ after (after start done) (take within.count others) =
    ap (after start) first ∙ after_append start done (take within.count others) in
    counted start es (length done + within.count) low high image
    (omega (arith, within.at_least)) (omega (arith, within.at_most))
    (subst (λ (m : Machine). Stands image (rest_of m)) (sym same) within.stands)

-- what is within narrower bounds is within wider ones
pub within_wider : (start : Machine) (es : List Event) (least most low high : ℕ) → low ≤ least → most ≤ high →
    (image : List ℕ) →
    StandsWithin start es least most image → StandsWithin start es low high image
within_wider start es least most low high lower higher image within =
    counted start es within.count low high image (omega (arith, within.at_least)) (omega (arith, within.at_most))
    within.stands

-- no event was carried out
pub within_none : (start : Machine) (es : List Event) (least most : ℕ) (image : List ℕ) → least ≤ 0 →
    StandsForEither start.state start.state image →
    StandsWithin start es least most image
within_none start es least most image low (inl is) =
    within_front start es [] es least most image refl low (omega arith) is
within_none start es least most image low (inr is) =
    within_front start es [] es least most image refl low (omega arith) is

-- the first events, or one more
pub within_either : (start now new : Machine) (es done others : List Event) (event : Event) (image : List ℕ) →
    done ++ event ∷ others ≡ es →
    now ≡ after start done → new ≡ (step now event).0 → StandsForEither now.state new.state image →
    StandsWithin start es 0 (length (done ++ event ∷ [])) image
within_either start now new es done others event image parts machine stepped (inl is) =
    within_front start es done (event ∷ others) 0 (length (done ++ event ∷ [])) image parts (omega arith)
    (omega (arith, length-append done (event ∷ [])))
    (subst (λ (m : Machine). Stands image (rest_of m)) machine is)
within_either start now new es done others event image parts machine stepped (inr is) =
    let one : new ≡ after start (done ++ event ∷ []) =
    stepped ∙ ap (λ m. (step m event).0) machine ∙ sym (after_append start done (event ∷ [])) in
    within_front start es (done ++ event ∷ []) others 0 (length (done ++ event ∷ [])) image
    (append_assoc done (event ∷ []) others ∙ parts) (omega arith) (omega arith)
    (subst (λ (m : Machine). Stands image (rest_of m)) one is)
