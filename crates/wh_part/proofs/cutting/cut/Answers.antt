use Rattle.std.proofs.Common.{◌≡◌, ℕ, ◌+◌, ◌*◌, ◌≤◌, List, ◌∷◌, [], ◌++◌, length, take, drop, sym, ap}
use Rattle.std.proofs.Common.{◌∙◌, arith, length-append}
use Rattle.std.specs.List.{flat_map}
use Rattle.std.proofs.lemmas.List.{append-nil, drop-drop}
use Rattle.std.proofs.lemmas.List.Concat.{flat_map-append}
use Rattle.std.proofs.lemmas.Grind.{div_ceil_times}
use Rattle.wh_value.specs.Value.{Row}
use Rattle.wh_frame.specs.Partition.{numbered, Partition}
use Rattle.wh_part.proofs.CutLemmas.{numbered_thousand, cut_next, cut_done}
use Rattle.wh_part.proofs.cutting.cut.Goals as goal

pub loop-done-preserved : goal.loop-done-preserved
loop-done-preserved c =
    let all = c.args.rows.items in
    let done = c.loop-done.done in
    let first = c.args.first in
    let parts = c.loop-done.parts.items in
    let p = c.make.result in
    let within : done * 1000 ≤ length all = omega (arith, div_ceil_times (length all) 1000 (omega arith)) in
    let some : p.rows ≡ numbered (first + done * 1000) (take 1000 (drop (done * 1000) all)) =
    c.make.ensures.rows ∙ c.in_ok-rows.ensures.rows
    ∙ ap (λ (l : List Row). numbered (first + done * 1000) (take 1000 l)) c.loop-done.invariant.left in
    let one : flat_map (λ (q : Partition). q.rows) (p ∷ []) ≡ p.rows = append-nil p.rows in
    record {
      rows = ap (flat_map (λ (q : Partition). q.rows)) c.in_ok-push.ensures.items
          ∙ flat_map-append (λ (q : Partition). q.rows) parts (p ∷ [])
          ∙ ap (λ (l : List (ℕ × Row)). l ++ flat_map (λ (q : Partition). q.rows) (p ∷ [])) c.loop-done.invariant.rows
          ∙ ap (λ (l : List (ℕ × Row)). numbered first (take (done * 1000) all) ++ l) (one ∙ some)
          ∙ sym (numbered_thousand first done all within);
      left = c.in_ok-rows.ensures.rest ∙ ap (drop 1000) c.loop-done.invariant.left ∙ drop-drop 1000 (done * 1000) all
          ∙ ap (λ (n : ℕ). drop n all) (omega arith);
      count = ap length c.in_ok-push.ensures.items ∙ length-append parts (p ∷ []) ∙ omega arith;
      parts = c.in_ok-push.ensures.items ∙ ap (λ (ps : List Partition). ps ++ p ∷ []) c.loop-done.invariant.parts
          ∙ sym (cut_next c.args.number first done all p c.make.ensures.number some);
    }

pub returns-clause-parts : goal.returns-clause-parts
returns-clause-parts c =
    c.loop-done.invariant.parts ∙ cut_done c.args.number c.args.first c.loop-done.done c.args.rows.items
    (omega (arith, c.div_ceil-count.ensures, c.len.ensures))
