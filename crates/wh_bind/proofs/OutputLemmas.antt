-- The columns of a UNION ALL, and their places.
use Rattle.std.proofs.Common.{◌≡◌, ◌∙◌, ◌<◌, sym, ap, refl, ℕ, zero, suc, ◌+◌, Bool, true, false, ◌&&◌, List, [], ◌∷◌}
use Rattle.std.proofs.Common.{◌++◌, append_assoc, length, drop, get_or, Option, Some, None, option_map, add-one, arith}
use Rattle.std.specs.Prelude.{slice_get}
use Rattle.std.proofs.Math.Bool.{and-false}
use Rattle.std.proofs.lemmas.List.{map-append}
use Rattle.wh_naming.specs.Select as naming
use Rattle.wh_core_bind.specs.declared.output.Output.{Output}
use Rattle.wh_core_bind.specs.View.{output_of, outputs_of}
use Rattle.wh_bind.specs.Steps.{with_other}

abbrev pub listed : Option ℕ → List ℕ
listed None = []
listed (Some x) = x ∷ []

pub not_as_many : (os ps : List naming.Output) → (length os ≡ length ps → ⊥) → naming.fit_each_other os ps ≡ false
not_as_many [] [] apart = absurd (apart refl)
not_as_many [] (p ∷ ps) apart = refl
not_as_many (o ∷ os) [] apart = refl
not_as_many (o ∷ os) (p ∷ ps) apart = rw (not_as_many os ps (λ e. apart (ap suc e))) (and-false _)

merged_nothing : (os : List naming.Output) → naming.merged os [] ≡ os
merged_nothing [] = refl
merged_nothing (o ∷ os) = refl

nothing_dropped : (i : ℕ) → drop {A = Output} i [] ≡ []
nothing_dropped zero = refl
nothing_dropped (suc i) = refl

merged_step : (os ps : List Output) (i : ℕ) (d : Output) → i < length os
    → naming.merged (outputs_of (drop i os)) (outputs_of (drop i ps))
    ≡ with_other (output_of (get_or os i d)) (option_map output_of (slice_get ps i))
    ∷ naming.merged (outputs_of (drop (suc i) os)) (outputs_of (drop (suc i) ps))
merged_step [] ps i d lt = absurd (omega arith)
merged_step (o ∷ os) [] zero d lt = ap (λ rest. output_of o ∷ rest) (sym (merged_nothing (outputs_of os)))
merged_step (o ∷ os) (p ∷ ps) zero d lt = refl
merged_step (o ∷ os) [] (suc i) d lt = ap (λ xs. naming.merged (outputs_of (drop i os)) (outputs_of xs))
    (sym (nothing_dropped i)) ∙ merged_step os [] i d (omega arith)
merged_step (o ∷ os) (p ∷ ps) (suc i) d lt = merged_step os ps i d (omega arith)

pub merged_more : (made : List Output) (o : Output) (os ps : List Output) (i : ℕ) (d : Output) (q : Option Output)
    (whole : List naming.Output)
    → i < length os → d ≡ get_or os i d → q ≡ slice_get ps i
    → output_of o ≡ with_other (output_of d) (option_map output_of q)
    → outputs_of made ++ naming.merged (outputs_of (drop i os)) (outputs_of (drop i ps)) ≡ whole
    → outputs_of (made ++ o ∷ []) ++ naming.merged (outputs_of (drop (i + 1) os)) (outputs_of (drop (i + 1) ps)) ≡ whole
merged_more made o os ps i d q whole lt is there e before =
    let step = merged_step os ps i d lt in
    let here : output_of o ≡ with_other (output_of (get_or os i d)) (option_map output_of (slice_get ps i)) =
    e ∙ ap (λ (x : Output). with_other (output_of x) (option_map output_of q)) is
    ∙ ap (λ (p : Option Output). with_other (output_of (get_or os i d)) (option_map output_of p)) there in
    rw (add-one, map-append output_of made (o ∷ []), append_assoc)
    (ap (λ (x : naming.Output). outputs_of made ++ x ∷ naming.merged (outputs_of (drop (suc i) os))
    (outputs_of (drop (suc i) ps))) here ∙ ap (λ xs. outputs_of made ++ xs) (sym step) ∙ before)
