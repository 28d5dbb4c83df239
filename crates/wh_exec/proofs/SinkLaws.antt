-- Rows that go into a sink.
--     takes_none, takes_on        none of them, and one part behind another
--     lacks_none, lacks_on, lacks_first   undefined rows, and a part of them that is undefined
--     pours_on, feeds_on          the same of what pouring and feeding give
--     pours_first                 pouring that stops in the first part
--     fed_as                      what pouring gives, as a run answers it
--     rows_taken, groups_taken    into each kind of sink
--     answers_none, answers_some  what a sink answers that was empty first
use Rattle.std.specs.Prelude.{◌≡◌, List, ◌++◌, Option, Some, None, Result, Ok, Err, Vec}
use Rattle.std.specs.Global.{Global}
use Rattle.std.proofs.Common.{refl, sym, ap, subst, ◌∙◌}
use Rattle.wh_value.specs.Value.{Row}
use Rattle.wh_meaning.specs.Bag.{Bag, no_rows, bag_of, plus, beside}
use Rattle.wh_meaning.specs.Query.{grouped}
use Rattle.wh_meaning.proofs.BagLaws.{plus-comm, no_rows-plus, bag_of-append, rows_of, bag_of-rows_of}
use Rattle.wh_meaning.proofs.Gathered.{beside-turned, beside-assoc, beside-nothing, nothing-beside}
use Rattle.wh_scalar.specs.declared.fault.EvalFault.{EvalFault}
use Rattle.wh_scalar.specs.declared.fault.EvalFault.TheVariants.{NumberOutOfRange, OutOfMemory}
use Rattle.wh_fetch.specs.declared.fault.FetchFault.{FetchFault}
use Rattle.wh_algebra.specs.declared.tuple.Tuple.{Tuple}
use Rattle.wh_algebra.specs.View.{scalars_of, calls_of}
use Rattle.wh_algebra.specs.Tuple.{rows_in}
use Rattle.wh_aggregate.specs.Groups.{AreOver, TakesIn}
use Rattle.wh_exec.specs.declared.grouping.Grouping.{Grouping}
use Rattle.wh_exec.specs.declared.sink.Sink.{Sink}
use Rattle.wh_exec.specs.declared.sink.Sink.TheVariants.{Rows, Groups}
use Rattle.wh_exec.specs.Defined.{IsDefinedAs}
use Rattle.wh_exec.specs.Evaluation.{Evaluates}
use Rattle.wh_exec.specs.Source.{bag_found}
use Rattle.wh_exec.specs.Sink.{Shape, shape_of, answer, Has, HasSome, Takes, Lacks, Pours, FeedsAs, Feeds}

-- ---- parts of rows

beside_again : (one two found : Option Bag) → beside two (beside one found) ≡ beside (beside one two) found
beside_again one two found = beside-turned two one found ∙ sym (beside-assoc one two found)

beside-none : (a : Option Bag) → beside a None ≡ None
beside-none None = refl
beside-none (Some a) = refl

answer-none : (shape : Shape) → answer shape None ≡ None
answer-none None = refl
answer-none (Some (by, calls)) = refl

pub takes_none : (sink : Sink) → Takes sink sink (Some no_rows)
takes_none sink = record {
  shape = refl;
  has = λ before has. subst (Has sink) (sym (no_rows-plus before)) has;
}

has_on : (mid last : Sink) (meant found : Option Bag) → Takes mid last meant → HasSome mid found
    → HasSome last (beside meant found)
has_on mid last meant None takes has = absurd has
has_on mid last meant (Some before) takes has = takes.has before has

pub takes_on : {first mid last : Sink} {one two : Option Bag} → Takes first mid one → Takes mid last two
    → Takes first last (beside one two)
takes_on {first} {mid} {last} {one} {two} here next = record {
  shape = next.shape ∙ here.shape;
  has = λ before has. subst (HasSome last) (beside_again one two (Some before))
      (has_on mid last two (beside one (Some before)) next (here.has before has));
}

lacks_at : (mid : Sink) (meant found more : Option Bag) → Lacks mid meant → HasSome mid found
    → answer (shape_of mid) (beside more (beside meant found)) ≡ None
lacks_at mid meant None more lacks has = absurd has
lacks_at mid meant (Some before) more lacks has = lacks.lacks before more has

pub lacks_on : {first mid : Sink} {one two : Option Bag} → Takes first mid one → Lacks mid two
    → Lacks first (beside one two)
lacks_on {first} {mid} {one} {two} here next = record {
  lacks = λ before more has. subst
      (λ (shape : Shape). answer shape (beside more (beside (beside one two) (Some before))) ≡ None) here.shape
      (ap (λ found. answer (shape_of mid) (beside more found)) (sym (beside_again one two (Some before)))
      ∙ lacks_at mid two (beside one (Some before)) more next (here.has before has));
}

pub lacks_first : {first : Sink} {one : Option Bag} (two : Option Bag) → Lacks first one
    → Lacks first (beside one two)
lacks_first {first} {one} two here = record {
  lacks = λ before more has. ap (answer (shape_of first))
      (ap (beside more) (sym (beside_again one two (Some before)))
      ∙ sym (beside-assoc more two (beside one (Some before))))
      ∙ here.lacks before (beside more two) has;
}

pub lacks_none : (sink : Sink) → Lacks sink None
lacks_none sink = record {
  lacks = λ before more has. ap (answer (shape_of sink)) (beside-none more) ∙ answer-none (shape_of sink);
}

-- ---- what pouring and feeding give

pub pours_on : (first mid last : Sink) (one two : Option Bag) (result : Result (Unit {0}) EvalFault)
    → Takes first mid one → Pours result mid last two → Pours result first last (beside one two)
pours_on first mid last one two (Ok done) here next = takes_on here next
pours_on first mid last one two (Err NumberOutOfRange) here next = lacks_on here next
pours_on first mid last one two (Err OutOfMemory) here next = tt

pub pours_first : (first mid : Sink) (one two : Option Bag) (fault : EvalFault)
    → Pours (Err fault) first mid one → Pours (Err fault) first mid (beside one two)
pours_first first mid one two NumberOutOfRange here = lacks_first two here
pours_first first mid one two OutOfMemory here = tt

pub feeds_on : (first mid last : Sink) (one two : Option Bag) (result : Result (Option (Unit {0})) FetchFault)
    → Takes first mid one → Feeds result mid last two → Feeds result first last (beside one two)
feeds_on first mid last one two (Ok (Some done)) here next = takes_on here next
feeds_on first mid last one two (Ok None) here next = lacks_on here next
feeds_on first mid last one two (Err fault) here next = tt

pub fed_as : (first last : Sink) (meant : Option Bag) (result : Result (Unit {0}) EvalFault)
    (fed : Option (Unit {0})) → IsDefinedAs result fed → Pours result first last meant
    → FeedsAs fed first last meant
fed_as first last meant (Ok done) fed is pours = subst (λ f. FeedsAs f first last meant) (sym is) pours
fed_as first last meant (Err NumberOutOfRange) fed is pours =
    subst (λ f. FeedsAs f first last meant) (sym is) pours
fed_as first last meant (Err OutOfMemory) fed is pours = absurd is

-- ---- into each kind of sink

pub rows_taken : (old new : Vec Tuple Global) (rows : List Row) → rows_in new.items ≡ rows_in old.items ++ rows
    → Takes (Rows old) (Rows new) (Some (bag_of rows))
rows_taken old new rows put = record {
  shape = refl;
  has = λ before has. ap bag_of put ∙ bag_of-append (rows_in old.items) rows
      ∙ plus-comm (bag_of (rows_in old.items)) (bag_of rows) ∙ ap (plus (bag_of rows)) has;
}

pub groups_taken : (old new : Grouping) (rows : List Row) (result : Result (Unit {0}) EvalFault)
    → (new.by ≡ old.by) × (new.calls ≡ old.calls)
    → ((before : Bag) → AreOver (scalars_of old.by.now) (calls_of old.calls.now) before old.groups
    → TakesIn (scalars_of old.by.now) (calls_of old.calls.now) rows before result new.groups)
    → Pours result (Groups old) (Groups new) (Some (bag_of rows))
groups_taken old new rows (Ok done) same added = record {
  shape = rw (same.0, same.1) refl;
  has = λ before has. rw (same.0, same.1) (added before has);
}
groups_taken old new rows (Err OutOfMemory) same added = tt
groups_taken old new rows (Err NumberOutOfRange) same added = record {
  lacks = λ before more has. no_answer before has more;
}
  where
    no_answer : (before : Bag) → AreOver (scalars_of old.by.now) (calls_of old.calls.now) before old.groups
        → (more : Option Bag)
        → answer (shape_of (Groups old)) (beside more (Some (plus (bag_of rows) before))) ≡ None
    no_answer before has None = refl
    no_answer before has (Some m) = subst
        (λ b. grouped (scalars_of old.by.now) (calls_of old.calls.now) (plus b (plus (bag_of rows) before)) ≡ None)
        (bag_of-rows_of m) (added before has (rows_of m))

-- ---- what a sink answers that was empty first

pub answers_none : (sink : Sink) (meant : Option Bag) → Has sink no_rows → Lacks sink meant
    → None ≡ answer (shape_of sink) meant
answers_none sink meant empty lacks = sym (ap (answer (shape_of sink))
    (sym (nothing-beside (beside meant (Some no_rows)) ∙ beside-nothing meant))
    ∙ lacks.lacks no_rows (Some no_rows) empty)

found_is : (result : Result (Vec Tuple Global) EvalFault) (found : Option (Vec Tuple Global)) (meant : Option Bag)
    → Evaluates result meant → IsDefinedAs result found → bag_found found ≡ meant
found_is (Ok tuples) found meant gives is = ap bag_found is ∙ sym gives
found_is (Err NumberOutOfRange) found meant gives is = ap bag_found is ∙ sym gives
found_is (Err OutOfMemory) found meant gives is = absurd is

found_of : (new : Sink) (meant : Option Bag) (result : Result (Vec Tuple Global) EvalFault)
    (found : Option (Vec Tuple Global)) → HasSome new meant
    → ((bag : Bag) → Has new bag → Evaluates result (answer (shape_of new) (Some bag)))
    → IsDefinedAs result found → bag_found found ≡ answer (shape_of new) meant
found_of new None result found has gives is = absurd has
found_of new (Some bag) result found has gives is =
    found_is result found (answer (shape_of new) (Some bag)) (gives bag has) is

pub answers_some : (old new : Sink) (meant : Option Bag) (result : Result (Vec Tuple Global) EvalFault)
    (found : Option (Vec Tuple Global)) → Has old no_rows → Takes old new meant
    → ((bag : Bag) → Has new bag → Evaluates result (answer (shape_of new) (Some bag)))
    → IsDefinedAs result found → bag_found found ≡ answer (shape_of old) meant
answers_some old new meant result found empty takes gives is =
    found_of new meant result found (subst (HasSome new) (beside-nothing meant) (takes.has no_rows empty)) gives is
    ∙ ap (λ shape. answer shape meant) takes.shape
