use Rattle.std.proofs.Common.{arith, rules, ◌∙◌, ℕ, length-take, length-drop}
use Rattle.wh_shell.specs.Writing.{WritesFront}
use Rattle.wh_shell.proofs.Written.{writes_more, writes_front}
use Rattle.wh_shell.proofs.writing.write_all.Goals as goal

pub pieces-preserved : goal.pieces-preserved
pieces-preserved g c = record {
  within = omega (arith, c.in_ok-taken.ensures.count, length-take {A = ℕ}, length-drop {A = ℕ});
  written = writes_more c.args.piece.now c.pieces.at c.in_ok-taken.taken (g.K.Sink.held c.args.out.now)
      (g.K.Sink.held c.pieces.out)
      (g.K.Sink.held c.write.new.self) c.pieces.invariant.written c.in_ok-taken.ensures.taken;
  later = omega arith;
}

pub returns-in_err-taken-clause-front : goal.returns-in_err-taken-clause-front
returns-in_err-taken-clause-front g c =
    let front : WritesFront c.args.piece.now (g.K.Sink.held c.args.out.now) (g.K.Sink.held c.write.new.self) =
    writes_front c.args.piece.now c.pieces.at (g.K.Sink.held c.args.out.now) (g.K.Sink.held c.write.new.self)
    (c.in_err-taken.ensures.kept ∙ c.pieces.invariant.written) in
    search rules
