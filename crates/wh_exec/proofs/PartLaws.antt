-- Partitions whose rows go through steps one after the other.
--     values_of                the rows of a partition
--     meant                    what comes of the rows of partitions
--     meant-none, meant-behind of none of them, and of some behind others
--     part_met, part_more      one of them more
--     part_lacks, part_stops   one whose rows are undefined
--     filed_there              the partition of a reference among others
--     passed_over, last_parted what a condition rejects gives no rows
--     step_back, stops_back    steps are taken from the last one on
use Rattle.std.specs.Prelude.{◌≡◌, ℕ, zero, suc, ◌+◌, ◌-◌, ◌<◌, List, [], ◌∷◌, ◌++◌, length, map, take, drop}
use Rattle.std.specs.Prelude.{Option, Some, None, Err, slice_get}
use Rattle.std.specs.List.{All, flat_map}
use denote.Ref.{Bor}
use Rattle.std.proofs.Common.{refl, sym, ap, subst, ◌∙◌, get_or, arith, append-nil}
use Rattle.std.proofs.lemmas.List.{map-append, drop_all}
use Rattle.std.proofs.lemmas.Option.{slice_get_within, get_or_from_slice_get}
use Rattle.std.proofs.lemmas.List.Concat.{flat_map-append}
use Rattle.wh_value.specs.Value.{Row}
use Rattle.wh_frame.specs.Partition.{Partition}
use Rattle.wh_part.specs.Holding.{Rejects, RejectsEach}
use Rattle.wh_filed.specs.Filed.{Filed, partitions_at}
use Rattle.wh_meaning.specs.Scalar.{Scalar, val}
use Rattle.wh_meaning.specs.Bag.{Bag, no_rows, bag_of, plus, beside, gathered}
use Rattle.wh_meaning.specs.Query.{kept_by}
use Rattle.wh_meaning.proofs.BagLaws.{bag_of-append}
use Rattle.wh_meaning.proofs.Gathered.{gathered-no_rows, gathered-with_row, nothing-beside}
use Rattle.wh_scalar.specs.declared.fault.EvalFault.{EvalFault}
use Rattle.wh_scalar.specs.declared.fault.EvalFault.TheVariants.{NumberOutOfRange, OutOfMemory}
use Rattle.wh_aggregate.specs.Given.{IsFaultOf}
use Rattle.wh_exec.specs.declared.sink.Sink.{Sink}
use Rattle.wh_exec.specs.declared.step.Step.{Step}
use Rattle.wh_exec.specs.Source.{parts_bag}
use Rattle.wh_exec.specs.Step.{gives, through}
use Rattle.wh_exec.specs.Sink.{Takes, Lacks, Pours}
use Rattle.wh_exec.proofs.Turns.{one_more, parted_at}
use Rattle.wh_exec.proofs.ThroughLaws.{through-push, through-none, through-no_rows, through-beside}
use Rattle.wh_exec.proofs.SinkLaws.{takes_none, takes_on, lacks_on, lacks_first}

abbrev pub values_of : Partition → List Row
values_of p = map (λ e. e.1) p.rows

abbrev pub meant : List Step → List Partition → Option Bag
meant steps ps = through steps (Some (parts_bag ps))

parts_bag-append : (ps qs : List Partition) → parts_bag (ps ++ qs) ≡ plus (parts_bag ps) (parts_bag qs)
parts_bag-append ps qs =
    ap (λ es. bag_of (map (λ e. e.1) es)) (flat_map-append (λ (p : Partition). p.rows) ps qs)
    ∙ ap bag_of (map-append (λ (e : ℕ × Row). e.1) (flat_map (λ p. p.rows) ps) (flat_map (λ p. p.rows) qs))
    ∙ bag_of-append (map (λ e. e.1) (flat_map (λ p. p.rows) ps)) (map (λ e. e.1) (flat_map (λ p. p.rows) qs))

one_part : (p : Partition) → parts_bag (p ∷ []) ≡ bag_of (values_of p)
one_part p = ap (λ es. bag_of (map (λ e. e.1) es)) (append-nil p.rows)

pub meant-behind : (steps : List Step) (ps qs : List Partition)
    → meant steps (ps ++ qs) ≡ beside (meant steps ps) (meant steps qs)
meant-behind steps ps qs = ap (λ b. through steps (Some b)) (parts_bag-append ps qs)
    ∙ through-beside steps (Some (parts_bag ps)) (Some (parts_bag qs))

pub meant-none : (steps : List Step) (sink : Sink) → Takes sink sink (meant steps [])
meant-none steps sink = subst (Takes sink sink) (sym (through-no_rows steps)) (takes_none sink)

pub meant-one : (steps : List Step) (p : Partition) → through steps (Some (bag_of (values_of p))) ≡ meant steps (p ∷ [])
meant-one steps p = ap (λ b. through steps (Some b)) (sym (one_part p))

module _ (steps : List Step) (all : List Partition) (i : ℕ) (p : Partition) (within : i < length all)
    (at : p ≡ get_or all i p) where
  pub part_met : meant steps (take (i + 1) all)
      ≡ beside (meant steps (take i all)) (through steps (Some (bag_of (values_of p))))
  part_met = ap (meant steps) (one_more all i p within at) ∙ meant-behind steps (take i all) (p ∷ [])
      ∙ ap (beside (meant steps (take i all))) (sym (meant-one steps p))

module _ (steps : List Step) {first mid : Sink} (all : List Partition) (i : ℕ) (p : Partition)
    (within : i < length all) (at : p ≡ get_or all i p) (takes : Takes first mid (meant steps (take i all))) where
  pub part_more : {last : Sink} → Takes mid last (through steps (Some (bag_of (values_of p))))
      → Takes first last (meant steps (take (i + 1) all))
  part_more {last} more = subst (Takes first last) (sym (part_met steps all i p within at)) (takes_on takes more)

  pub part_lacks : Lacks mid (through steps (Some (bag_of (values_of p)))) → Lacks first (meant steps all)
  part_lacks lacks = subst (Lacks first)
      (sym (ap (meant steps) (parted_at all i p within at) ∙ meant-behind steps (take i all) (p ∷ drop (i + 1) all)
      ∙ ap (beside (meant steps (take i all))) (meant-behind steps (p ∷ []) (drop (i + 1) all)
      ∙ ap (λ found. beside found (meant steps (drop (i + 1) all))) (sym (meant-one steps p)))))
      (lacks_on takes (lacks_first (meant steps (drop (i + 1) all)) lacks))

  pub part_stops : (fault : EvalFault) (last : Sink)
      → Pours (Err fault) mid last (through steps (Some (bag_of (values_of p))))
      → Pours (Err fault) first last (meant steps all)
  part_stops NumberOutOfRange last lacks = part_lacks lacks
  part_stops OutOfMemory last pours = tt

-- ---- references to partitions of the file

pub record IsAt (ps : List Partition) (i : ℕ) (p : Partition) : Type 0 where
  pub within : i < length ps
  pub at : p ≡ get_or ps i p

pub filed_there : (fs : List (Bor Filed)) (i : ℕ) (f : Bor Filed) → i < length fs → f ≡ get_or fs i f
    → IsAt (partitions_at fs) i f.now.partition
filed_there [] i f within at = absurd (omega (arith, within))
filed_there (x ∷ xs) zero f within at = record { within = omega arith; at = ap (λ (y : Bor Filed). y.now.partition) at }
filed_there (x ∷ xs) (suc i) f within at =
    let there = filed_there xs i f (omega (arith, within)) at in record { within = omega (arith, there.within); at = there.at }

-- ---- rows that a condition rejects

rejected_row : (e : Scalar) (row : Row) → Rejects e row → kept_by e row ≡ Some no_rows
rejected_row e row out = elim (val e row) as (λ v. val e row ≡ v → kept_by e row ≡ Some no_rows) [
  | None ↦ λ is. absurd (rw is at out)
  | Some v ↦ λ is. rw is (rw (rw is at out) refl)
] refl

rejected_rows : (e : Scalar) (rows : List (ℕ × Row)) → All (λ r. Rejects e r.1) rows
    → gathered (kept_by e) (bag_of (map (λ r. r.1) rows)) ≡ Some no_rows
rejected_rows e [] out = gathered-no_rows (kept_by e)
rejected_rows e (r ∷ rows) out =
    gathered-with_row (kept_by e) r.1 (bag_of (map (λ x. x.1) rows))
    ∙ ap (λ a. beside a (gathered (kept_by e) (bag_of (map (λ x. x.1) rows)))) (rejected_row e r.1 (out 0 r (omega arith)))
    ∙ nothing-beside (gathered (kept_by e) (bag_of (map (λ x. x.1) rows)))
    ∙ rejected_rows e rows (λ i d within. out (suc i) d (omega (arith, within)))

pub passed_over : (steps front : List Step) (step : Step) (e : Scalar) (p : Partition) → steps ≡ front ++ step ∷ []
    → ((row : Row) → gives step row ≡ kept_by e row) → RejectsEach e p
    → through steps (Some (bag_of (values_of p))) ≡ Some no_rows
passed_over steps front step e p parted is out =
    ap (λ ss. through ss (Some (bag_of (values_of p)))) parted
    ∙ through-push front step (Some (bag_of (values_of p)))
    ∙ ap (through front) (ap (λ (f : Row → Option Bag). gathered f (bag_of (values_of p))) (λ i row. is row i)
    ∙ rejected_rows e p.rows out)
    ∙ through-no_rows front

pub last_parted : (steps : List Step) (step : Step) → slice_get steps (length steps - 1) ≡ Some step
    → steps ≡ take (length steps - 1) steps ++ step ∷ []
last_parted steps step is =
    let within = slice_get_within steps (length steps - 1) step is in
    parted_at steps (length steps - 1) step within (sym (get_or_from_slice_get steps (length steps - 1) step step is))
    ∙ ap (λ rest. take (length steps - 1) steps ++ step ∷ rest)
    (drop_all (length steps - 1 + 1) steps (omega (arith, within)))

-- ---- steps from the last one on

module _ (all : List Step) (n i : ℕ) (step : Step) (found : Bag) (whole : Option Bag) (next : i + 1 ≡ n)
    (within : i < length all) (at : step ≡ get_or all i step)
    (left : through (take n all) (Some found) ≡ whole) where
  back : whole ≡ through (take i all) (gathered (gives step) found)
  back = sym left ∙ ap (λ k. through (take k all) (Some found)) (sym next)
      ∙ ap (λ ss. through ss (Some found)) (one_more all i step within at)
      ∙ through-push (take i all) step (Some found)

  pub step_back : (new : Bag) → gathered (gives step) found ≡ Some new → through (take i all) (Some new) ≡ whole
  step_back new is = sym (back ∙ ap (through (take i all)) is)

  pub stops_back : (fault : EvalFault) → IsFaultOf fault (gathered (gives step) found) → IsFaultOf fault whole
  stops_back NumberOutOfRange none = back ∙ ap (through (take i all)) none ∙ through-none (take i all)
  stops_back OutOfMemory none = tt
