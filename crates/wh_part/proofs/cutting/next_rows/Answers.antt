use Rattle.std.proofs.Common.{◌≡◌, ℕ, ◌+◌, List, ◌∷◌, [], ◌++◌, Option, length, map, min, take, drop}
use Rattle.std.proofs.Common.{sym, ap, subst, ◌∙◌, arith}
use Rattle.std.specs.Option.{option_to_list}
use Rattle.std.proofs.lemmas.List.{map-append, length-take, length-map}
use Rattle.wh_value.specs.Value.{Row}
use Rattle.wh_frame.specs.Partition.{numbered}
use Rattle.wh_frame.specs.Spelling.{RisesFrom}
use Rattle.wh_part.specs.View.{numbered_of}
use Rattle.wh_part.specs.declared.partition.NumberedRow.{NumberedRow}
use Rattle.wh_part.proofs.CutLemmas.{numbered_pop, numbered_rises, thousand_of, length-numbered}
use Rattle.wh_part.proofs.cutting.next_rows.Goals as goal

pub loop-done-preserved : goal.loop-done-preserved
loop-done-preserved c =
    let all = c.args.rest.now.items in
    let first = c.args.first in
    let done = c.loop-done.done in
    let row = c.unwrap-row.result in
    let popped : drop done all ≡ row ∷ c.pop_front.new.self.items =
    sym c.loop-done.invariant.left ∙ c.pop_front.ensures.items
    ∙ ap (λ (o : Option Row). option_to_list o ++ c.pop_front.new.self.items) c.unwrap-row.ensures in
    let pop = numbered_pop first done all c.pop_front.new.self.items row popped in
    let entry : NumberedRow = record { number = first + done; row = row } in
    record {
      numbered = ap (map numbered_of) c.in_ok-push.ensures.items
          ∙ map-append numbered_of c.loop-done.rows.items (entry ∷ [])
          ∙ ap (λ (l : List (ℕ × Row)). l ++ (first + done, row) ∷ []) c.loop-done.invariant.numbered ∙ sym pop.0;
      left = pop.1;
    }

pub returns-clause-rows : goal.returns-clause-rows
returns-clause-rows c =
    let all = c.args.rest.now.items in
    let k : c.loop-done.done ≡ min (length all) 1000 = omega arith in
    c.loop-done.invariant.numbered ∙ ap (numbered c.args.first) (thousand_of c.loop-done.done all k).0

pub returns-clause-rest : goal.returns-clause-rest
returns-clause-rest c =
    let all = c.args.rest.now.items in
    let k : c.loop-done.done ≡ min (length all) 1000 = omega arith in
    c.loop-done.invariant.left ∙ (thousand_of c.loop-done.done all k).1

pub returns-clause-few : goal.returns-clause-few
returns-clause-few c =
    let all = c.args.rest.now.items in
    let size : length c.loop-done.rows.items ≡ min c.loop-done.done (length all) =
    sym (length-map c.loop-done.rows.items numbered_of) ∙ ap length c.loop-done.invariant.numbered
    ∙ length-numbered c.args.first (take c.loop-done.done all) ∙ length-take c.loop-done.done all in
    omega arith

pub returns-clause-rising : goal.returns-clause-rising
returns-clause-rising c =
    subst (RisesFrom 0) (sym c.loop-done.invariant.numbered)
    (numbered_rises c.args.first (take c.loop-done.done c.args.rest.now.items))
