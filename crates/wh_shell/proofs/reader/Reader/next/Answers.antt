use Rattle.std.proofs.Common.{◌≡◌, None, rules}
use Rattle.wh_text.specs.Turn.{ahead_and}
use Rattle.wh_text.specs.Script.{ahead_of}
use Rattle.wh_shell.specs.Reading.{unread}
use Rattle.wh_shell.proofs.ReadingLemmas.{ends_events}
use Rattle.wh_shell.proofs.reader.Reader.next.Goals as goal

-- no line was left
pub returns-in_default-clause-turn : goal.returns-in_default-clause-turn
returns-in_default-clause-turn g c =
    let none : c.in_ok-line.field-0 ≡ None = search rules in
    ends_events c.lines.self.session c.lines.self.reading c.lines.self.session c.lines.self.reading
    (unread c.args.self.now (g.S.Source.left c.args.source.now))
    (ahead_and (ahead_of c.lines.self.script) (g.S.Source.left c.lines.source))
    (ahead_of c.next.new.self) (g.S.Source.left c.next.new.source) c.lines.invariant.passes
    (rw none at c.in_ok-line.ensures.turn)
