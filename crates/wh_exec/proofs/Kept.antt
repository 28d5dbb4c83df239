-- Rows that are kept by what was told of each.
--     undefined_some    a row of which nothing could be told
--     Told, told_next   what is told of rows, and of the next one
--     kept_more         one more row, kept or not
use Rattle.std.specs.Prelude.{◌≡◌, refl, Bool, ℕ, ◌+◌, List, [], ◌∷◌, ◌++◌, Some, true, false, if◌then◌else◌}
use Rattle.std.specs.Prelude.{option_map, Ok, Err}
use Rattle.std.proofs.Common.{sym, ap, subst, ◌∙◌, append-nil}
use Rattle.std.specs.List.{AllZip}
use Rattle.wh_meaning.specs.Scalar.{Scalar, val}
use Rattle.wh_meaning.specs.Bag.{bag_of, beside, gathered}
use Rattle.wh_meaning.specs.Query.{if_true, kept_by}
use Rattle.wh_scalar.specs.View.{Tells}
use Rattle.wh_scalar.specs.declared.fault.EvalFault.{EvalFault}
use Rattle.wh_scalar.specs.declared.fault.EvalFault.TheVariants.{NumberOutOfRange, OutOfMemory}
use Rattle.wh_algebra.specs.declared.tuple.Tuple.{Tuple}
use Rattle.wh_algebra.specs.Tuple.{row_in, rows_in}
use Rattle.wh_aggregate.specs.Given.{IsFaultOf}
use Rattle.wh_exec.specs.Each.{TellsEach}
use Rattle.wh_exec.proofs.Added.{AddedSoFar, so_far_more, added_fails_at, kept_true, kept_false}

pub undefined_some : (e : Scalar) (all : List Tuple) (fault : EvalFault) → TellsEach (Err fault) e all
    → IsFaultOf fault (gathered (kept_by e) (bag_of (rows_in all)))
undefined_some e all NumberOutOfRange says =
    added_fails_at NumberOutOfRange (kept_by e) all says.1.0 says.0 (row_in says.0) says.1.1 (sym says.1.2) refl
    (ap (option_map (if_true (row_in says.0))) says.2)
undefined_some e all OutOfMemory says = tt

-- a row that was told of, kept or not
abbrev pub Told : Scalar → List Tuple → List Bool → Type 0
Told e left truths = AllZip (λ tuple truth. Tells (Ok truth) (val e (row_in tuple))) left truths

kept_so : (e : Scalar) (t : Tuple) (truth : Bool) (mid out : List Tuple) → Tells (Ok truth) (val e (row_in t))
    → out ≡ mid ++ (if truth then t ∷ [] else [])
    → beside (Some (bag_of (rows_in mid))) (kept_by e (row_in t)) ≡ Some (bag_of (rows_in out))
kept_so e t true mid out told put = kept_true e (row_in t) mid out t refl told put
kept_so e t false mid out told put =
    subst (λ (ts : List Tuple). beside (Some (bag_of (rows_in mid))) (kept_by e (row_in t)) ≡ Some (bag_of (rows_in ts)))
    (sym (put ∙ append-nil mid)) (kept_false e (row_in t) mid told)

-- the truth of the next row
pub told_next : (e : Scalar) (left rest : List Tuple) (t : Tuple) (truths : List Bool) → left ≡ t ∷ rest → Told e left truths
    → (truth : Bool) × (more : List Bool) × (truths ≡ truth ∷ more) × Tells (Ok truth) (val e (row_in t)) × Told e rest more
told_next e left rest t truths step told = go truths (subst (λ (ts : List Tuple). Told e ts truths) step told)
  where
    go : (truths : List Bool) → Told e (t ∷ rest) truths
        → (truth : Bool) × (more : List Bool) × (truths ≡ truth ∷ more) × Tells (Ok truth) (val e (row_in t)) × Told e rest more
    go [] none = absurd none
    go (truth ∷ more) all = (truth, more, refl, all.0, all.1)

pub kept_more : (e : Scalar) {all yielded left rest mid out : List Tuple} {count fewer : ℕ} {t : Tuple} (truth holds : Bool)
    → AddedSoFar (kept_by e) all yielded left count mid → left ≡ t ∷ rest → fewer + 1 ≡ count
    → Tells (Ok truth) (val e (row_in t)) → holds ≡ truth → out ≡ mid ++ (if holds then t ∷ [] else [])
    → AddedSoFar (kept_by e) all (yielded ++ t ∷ []) rest fewer out
kept_more e {mid = mid} {out = out} {t = t} truth holds so step gone told same put =
    so_far_more so step gone
    (kept_so e t truth mid out told (put ∙ ap (λ (b : Bool). mid ++ (if b then t ∷ [] else [])) same))
