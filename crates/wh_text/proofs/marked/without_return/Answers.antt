use Rattle.std.proofs.Common.{◌≡◌, ℕ, List, [], ◌∷◌, ◌-◌, ◌==◌, false, length, get_or, sym, arith}
use Rattle.std.proofs.lemmas.Bool.Decides.{nat_tests}
use Rattle.std.proofs.lemmas.Grind.{common_steps}
use Rattle.wh_grammar.specs.Script.{without_return}
use Rattle.wh_text.proofs.MarkedLaws.{return_dropped, return_kept, return_none}
use Rattle.wh_text.proofs.marked.without_return.Goals as goal
use Rattle.wh_text.proofs.marked.without_return.Goals.{else-count-gt0-via-then-count-gt0+else-line-count-eq13}
use Rattle.wh_text.proofs.marked.without_return.Goals.{else-count-gt0-via-else-count-gt0}

empty_kept : (line : List ℕ) → length line ≡ 0 → line ≡ without_return line
empty_kept [] none = sym return_none
empty_kept (b ∷ bytes) none = absurd (omega arith)

pub returns-then-line-count-eq13 : goal.returns-then-line-count-eq13
returns-then-line-count-eq13 c =
    let line = c.args.line.now in
    let last : get_or line (length line - 1) 0 ≡ 13 = grind (arith, common_steps) in
    sym (return_dropped line (length line - 1) (omega arith) last)

pub returns : goal.returns
returns c =
    let line = c.args.line.now in
    elim c.else-count-gt0.branch [
      | else-count-gt0-via-then-count-gt0+else-line-count-eq13 w ↦
          let other : (get_or line (length line - 1) 0 == 13) ≡ false = grind (arith, common_steps, nat_tests) in
          sym (return_kept line (length line - 1) (omega arith) other)
      | else-count-gt0-via-else-count-gt0 w ↦ empty_kept line (omega arith)
    ]
