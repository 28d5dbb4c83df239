use Rattle.std.proofs.Common.{rules, Result, ◌∷◌, ◌++◌, [], refl, sym, ap, subst, ◌∙◌, append_assoc, append-nil}
use Rattle.std.specs.Vec.Iter.{into_iter_items}
use Rattle.std.proofs.lemmas.Result.{err_from_is_err_and}
use Rattle.wh_algebra.specs.View.{scalars_of, calls_of}
use Rattle.wh_scalar.specs.declared.fault.EvalFault.{EvalFault}
use Rattle.wh_aggregate.specs.declared.groups.Groups.{Groups}
use Rattle.wh_exec.specs.Pieces.{ArePieces}
use Rattle.wh_exec.proofs.PieceLaws.{Joined, joined_none, joined_more, piece_undefined}
use Rattle.wh_exec.proofs.grouping.Grouping.join_all.Goals as goal

pub loop-piece-init : goal.loop-piece-init
loop-piece-init c = record {
  whole = c.into_iter-piece-iterator.ensures.into_iter_gives.0;
  by = refl;
  calls = refl;
  counted = search rules;
  joined = λ before over. joined_none _ _ before c.args.self.now.groups over;
}

pub loop-piece-preserved : goal.loop-piece-preserved
loop-piece-preserved c =
    let at = c.loop-piece in
    let by = scalars_of c.args.self.now.by.now in
    let calls = calls_of c.args.self.now.calls.now in
    let step = c.in-Some.ensures.steps in
    record {
      whole = append_assoc at.yielded (c.in-Some.piece ∷ []) _ ∙ ap (λ ps. at.yielded ++ ps) (sym step.0)
          ∙ at.invariant.whole;
      by = at.invariant.by;
      calls = at.invariant.calls;
      counted = search rules;
      joined = λ before over.
          subst (λ (piece : Result Groups EvalFault). Joined by calls before (at.yielded ++ piece ∷ []) c.join.new.self)
          (sym c.in_ok-piece.was)
          (joined_more by calls before at.yielded c.in_ok-piece.field-0 at.self.groups c.join.new.self
          (at.invariant.joined before over) (c.in_ok-join.ensures by calls));
    }

pub returns-in_err-piece-clause-added : goal.returns-in_err-piece-clause-added
returns-in_err-piece-clause-added c = λ rows before are over.
    let at = c.loop-piece in
    let by = scalars_of c.args.self.now.by.now in
    let calls = calls_of c.args.self.now.calls.now in
    let p = err_from_is_err_and c.from_residual.result c.from_residual.ensures.1 in
    let whole = ap (λ piece. at.yielded ++ piece ∷ into_iter_items c.next.new.self) (sym c.in_err-piece.was)
    ∙ ap (λ ps. at.yielded ++ ps) (sym c.in-Some.ensures.steps.0) ∙ at.invariant.whole in
    rw (p.1, p.2) (piece_undefined by calls before rows at.yielded (into_iter_items c.next.new.self) _ at.self.groups
    (subst (ArePieces by calls rows) (sym whole) are))
