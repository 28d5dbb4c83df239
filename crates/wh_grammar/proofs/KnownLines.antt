-- Scripts with their lines, worked out by hand.
use Rattle.std.proofs.Common.{◌≡◌, [], ◌∷◌, Some, None, refl}
use Rattle.std.specs.Prelude.{codes}
use Rattle.wh_grammar.specs.Script.{CommandLine, SessionLine, TickLine, lines_of, lines_from, place_behind, area_behind}
use Rattle.wh_grammar.specs.Script.{marked_line, without_return}

-- a `;` in quotes and comments ends no command, `''` stays inside its quotes, and a comment
-- between commands is passed over
lines : lines_of (codes "A 'x;''y' /* ; */ b;;--c;d\n/*e*/ !session 2\r\n\"f;\"-- ;\n") ≡
    CommandLine (codes "A 'x;''y' /* ; */ b") ∷ SessionLine 2 ∷ CommandLine (codes "\"f;\"-- ;\n") ∷ []
unfolding lines_from place_behind area_behind marked_line without_return
lines = refl

-- a star and a slash that a comment shares with its opening don't close it, and a comment
-- without its end begins a command
comments : (lines_of (codes "/*/a;*/b") ≡ CommandLine (codes "b") ∷ [])
    × (lines_of (codes "/*a;") ≡ CommandLine (codes "/*a;") ∷ [])
unfolding lines_from place_behind area_behind marked_line without_return
comments = (refl, refl)

-- one space stands before a number
ticks : lines_of (codes "!tick\n!tick 05\n!tick  5\n!session 1234567890\n!tick\r") ≡
    TickLine None ∷ TickLine (Some 5) ∷ CommandLine (codes "!tick  5") ∷ CommandLine (codes "!session 1234567890")
    ∷ CommandLine (codes "!tick\r") ∷ []
unfolding lines_from place_behind area_behind marked_line without_return
ticks = refl

-- of at most 18 digits at a tick, and of 9 at a session
longest : lines_of
    (codes "!tick 999999999999999999\n!tick 1234567890123456789\n!session 999999999\n!session\n!tick \n!TICK") ≡
    TickLine (Some 999999999999999999) ∷ CommandLine (codes "!tick 1234567890123456789") ∷ SessionLine 999999999
    ∷ CommandLine (codes "!session") ∷ CommandLine (codes "!tick ") ∷ CommandLine (codes "!TICK") ∷ []
unfolding lines_from place_behind area_behind marked_line without_return
longest = refl
