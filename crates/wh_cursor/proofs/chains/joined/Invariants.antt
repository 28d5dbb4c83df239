use Rattle.std.proofs.Common.{◌≡◌, ◌-◌}
use Rattle.wh_cursor.specs.Chains.{Links, ReadsLinks, joined}
use Rattle.wh_cursor.proofs.chains.joined.Given as goal

abbrev pub invariant-loop-turn : goal.invariant-loop-turn
invariant-loop-turn g l = (links : Links _ _ _)
    → ReadsLinks links (λ old r new. g.Operator.Fn.post l.operator (old, tt) (r, (new, tt)))
    (λ old r new. g.Operand.Fn.post l.operand (old, tt) (r, (new, tt)))
    (λ op x y z. g.Join.Fn.post l.join (op, (x, (y, tt))) z)
    → joined links l.most l.fn.first l.fn.tokens ≡ joined links (l.most - l._turn) l.left l.tokens
