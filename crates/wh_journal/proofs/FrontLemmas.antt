-- What an append leaves in front of the gate.
--     told_same     where nothing is written
--     told_with     with the record
--     told_torn     where the write was cut short
use Rattle.std.proofs.Common.{◌≡◌, ◌⊎◌, inl, inr, ℕ, ◌+◌, ◌-◌, ◌<◌, ◌≤◌, List, [], ◌∷◌, ◌++◌, length, take, drop, Option, Some, None, option_map, refl, sym, ap, ◌∙◌, subst, arith, length-append}
use Rattle.std.proofs.lemmas.List.{take-take, take-append-le, length-take}
use Rattle.wh_world.specs.Told.{Told}
use Rattle.wh_world.specs.Bytes.{written, Torn}
use Rattle.wh_journal.specs.Torn.{TornRecord, SameFront}
use Rattle.wh_journal.specs.Places.{with_record}

front_of_written : (file piece : List ℕ) (at n : ℕ) → n ≤ at → at ≤ length file → take n (written file at piece) ≡ take n file
front_of_written file piece at n low fits =
    let size : n ≤ length (take at file) = omega (arith, length-take at file) in
    take-append-le n (take at file) (piece ++ drop (at + length piece) file) size ∙ take-take n at file low

length_written : (file piece : List ℕ) (at : ℕ) → at ≤ length file → at ≤ length (written file at piece)
length_written file piece at fits =
    omega (arith, length-append (take at file) (piece ++ drop (at + length piece) file), length-take at file)

front_with : (file piece : List ℕ) (end : ℕ) → end ≤ length file → SameFront (end - 1) file (with_record file end piece)
unfolding with_record
front_with file piece end fits =
    let size : end ≤ length (written file end piece) = length_written file piece end fits in
    front_of_written (written file end piece) (1 ∷ []) (end - 1) (end - 1) (omega arith) (omega (arith, size))
    ∙ front_of_written file piece end (end - 1) (omega arith) fits

front_torn : (file new piece : List ℕ) (end : ℕ) → end ≤ length file → TornRecord end piece file new
    → SameFront (end - 1) file new
front_torn file new piece end fits (inl torn) =
    sym (take-take (end - 1) end new (omega arith)) ∙ ap (take (end - 1)) torn.before ∙ take-take (end - 1) end file (omega arith)
front_torn file new piece end fits (inr torn) = torn.before ∙ front_of_written file piece end (end - 1) (omega arith) fits

pub told_same : (n : ℕ) (told : Option (List ℕ)) → Told (SameFront n) told told
told_same n None = tt
told_same n (Some bytes) = refl

pub told_with : (end : ℕ) (piece : List ℕ) (old new : Option (List ℕ)) (size : ℕ)
    → ((b : List ℕ) → old ≡ Some b → length b ≡ size) → end ≤ size
    → new ≡ option_map (λ file. with_record file end piece) old → Told (SameFront (end - 1)) old new
told_with end piece None new size spans fits is = subst (Told (SameFront (end - 1)) None) (sym is) tt
told_with end piece (Some file) new size spans fits is =
    let long = spans file refl in
    subst (Told (SameFront (end - 1)) (Some file)) (sym is) (front_with file piece end (omega (arith, long)))

pub told_torn : (end : ℕ) (piece : List ℕ) (old new : Option (List ℕ)) (size : ℕ)
    → ((b : List ℕ) → old ≡ Some b → length b ≡ size) → end ≤ size
    → Told (TornRecord end piece) old new → Told (SameFront (end - 1)) old new
told_torn end piece None None size spans fits is = tt
told_torn end piece None (Some new) size spans fits is = absurd is
told_torn end piece (Some file) None size spans fits is = absurd is
told_torn end piece (Some file) (Some new) size spans fits is =
    let long = spans file refl in front_torn file new piece end (omega (arith, long)) is
