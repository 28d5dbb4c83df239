use Rattle.std.proofs.Common.{◌≡◌, ◌+◌, ◌∙◌, Some, None, length, option_map, sym, ap, arith}
use Rattle.wh_text.specs.ScriptPlace.{lines_at, next, kept}
use Rattle.wh_text.specs.Turn.{ahead_and}
use Rattle.wh_text.specs.View.{line_view}
use Rattle.wh_text.proofs.TurnLaws.{goes_on, runs_on, gives_line, last_turn, begun_once, kept_fits}
use Rattle.wh_text.proofs.lines.read_line.Goals as goal

pub returns-in_default-clause-turn : goal.returns-in_default-clause-turn
returns-in_default-clause-turn g c =
    let end = rw c.in_default.is at c.in_ok-byte.ensures.turn in
    last_turn c.bytes.place c.bytes.text c.in_ok-found.found _ _ _ end.none c.in_ok-found.ensures.line
    c.bytes.invariant.same end.same

pub returns-in_default-next-clause-turn : goal.returns-in_default-next-clause-turn
returns-in_default-next-clause-turn g c =
    let byte = rw c.in-Some.is at c.in_ok-byte.ensures.turn in
    let ended : next c.bytes.place c.in-Some.byte ≡ None = sym c.next.ensures ∙ c.in_default-next.is in
    let rest = ahead_and c.take_byte.new.self.bytes (g.S.Source.left c.take_byte.new.source) in
    gives_line c.bytes.place c.bytes.text c.in-Some.byte
    (line_view c.in_ok-line.line) _ _ rest ended c.in_ok-line.ensures.line c.bytes.invariant.same byte.first

pub bytes-preserved : goal.bytes-preserved
bytes-preserved g c =
    let byte = rw c.in-Some.is at c.in_ok-byte.ensures.turn in
    let after = c.in-Some-next.after in
    let moved : next c.bytes.place c.in-Some.byte ≡ Some after = sym c.next.ensures ∙ c.in-Some-next.is in
    let text : c.keep.new.text ≡ kept c.bytes.place c.bytes.text c.in-Some.byte = c.in_ok-keep.ensures.text in
    let left = g.S.Source.left c.take_byte.new.source in
    let rest = ahead_and c.take_byte.new.self.bytes left in
    let start = ahead_and c.args.ahead.now.bytes (g.S.Source.left c.args.source.now) in
    record {
      same = runs_on after c.keep.new.text c.take_run.new.text c.take_byte.new.self.bytes c.take_run.new.ahead.bytes
          start left c.in_ok-take_run.ensures.same
          (goes_on c.bytes.place after c.bytes.text c.in-Some.byte _ _ rest moved c.bytes.invariant.same byte.first
          ∙ ap (λ t. option_map (lines_at after t) rest) (sym text));
      used = omega (arith, byte.used, c.bytes.invariant.used, begun_once after, c.take_run.ensures.used);
      counts = ap (λ n. option_map (λ bytes. length bytes + n) left) c.take_run.ensures.taken
          ∙ c.in_ok-byte.ensures.counts ∙ c.bytes.invariant.counts;
      short = omega (arith, c.in_ok-byte.ensures.short, c.take_run.ensures.taken);
      fits = c.in_ok-take_run.ensures.fits;
      no_fault = c.in_ok-byte.ensures.no_fault ∙ c.bytes.invariant.no_fault;
    }

pub take_run-requires : goal.take_run-requires
take_run-requires g c =
    let byte = rw c.in-Some.is at c.in_ok-byte.ensures.turn in
    let after = c.in-Some-next.after in
    let moved : next c.bytes.place c.in-Some.byte ≡ Some after = sym c.next.ensures ∙ c.in-Some-next.is in
    let text : c.keep.new.text ≡ kept c.bytes.place c.bytes.text c.in-Some.byte = c.in_ok-keep.ensures.text in
    omega (
      arith,
      ap length text,
      kept_fits c.bytes.place after c.bytes.text c.in-Some.byte moved c.bytes.invariant.fits,
    )
