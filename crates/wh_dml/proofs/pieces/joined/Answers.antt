use Rattle.std.proofs.Common.{rules, Result, ◌∷◌, ◌++◌, [], sym, ap, subst, ◌∙◌, append_assoc, Some}
use Rattle.std.specs.Vec.Iter.{into_iter_items}
use Rattle.std.proofs.lemmas.Result.{err_from_is_err_and}
use Rattle.wh_scalar.specs.declared.fault.EvalFault.{EvalFault}
use Rattle.wh_dml.specs.declared.target.Effect.{Effect}
use Rattle.wh_effect.specs.Effect.{turned}
use Rattle.wh_dml.specs.View.{effect_of}
use Rattle.wh_dml.specs.Steps.{before}
use Rattle.wh_dml.specs.Pieces.{AreOn}
use Rattle.wh_dml.proofs.EffectLaws.{turned_append}
use Rattle.wh_dml.proofs.PieceLaws.{Joined, joined_none, joined_more, piece_undefined}
use Rattle.wh_dml.proofs.pieces.joined.Goals as goal

pub loop-piece-init : goal.loop-piece-init
loop-piece-init c = record {
  whole = c.into_iter-piece-iterator.ensures.into_iter_gives.0;
  counted = search rules;
  joined = λ meant. joined_none effect_of (turned meant) c.new-effect.result (ap Some (sym c.new-effect.ensures));
}

pub loop-piece-preserved : goal.loop-piece-preserved
loop-piece-preserved c =
    let at = c.loop-piece in
    let step = c.in-Some.ensures.steps in
    record {
      whole = append_assoc at.yielded (c.in-Some.piece ∷ []) _ ∙ ap (λ ps. at.yielded ++ ps) (sym step.0)
          ∙ at.invariant.whole;
      counted = search rules;
      joined = λ meant.
          subst (λ (piece : Result Effect EvalFault). Joined effect_of (turned meant) (at.yielded ++ piece ∷ []) c.append.new.self)
          (sym c.in_ok-piece.was)
          (joined_more effect_of before (turned meant) (turned_append meant) at.yielded c.in_ok-piece.field-0 at.effect c.append.new.self
          (at.invariant.joined meant) c.in_ok-append.ensures);
    }

pub returns-in_err-piece : goal.returns-in_err-piece
returns-in_err-piece c = λ meant target are.
    let at = c.loop-piece in
    let p = err_from_is_err_and c.from_residual.result c.from_residual.ensures.1 in
    let whole = ap (λ piece. at.yielded ++ piece ∷ into_iter_items c.next.new.self) (sym c.in_err-piece.was)
    ∙ ap (λ ps. at.yielded ++ ps) (sym c.in-Some.ensures.steps.0) ∙ at.invariant.whole in
    rw (p.1, p.2) (piece_undefined effect_of before (turned meant) (turned_append meant) target at.yielded (into_iter_items c.next.new.self) _
    (subst (AreOn effect_of (turned meant) target) (sym whole) are))
