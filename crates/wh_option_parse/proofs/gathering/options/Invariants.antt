use Rattle.std.proofs.Common.{◌≡◌, ◌-◌}
use Rattle.wh_option_parse.specs.Nests.{ReadsOption}
use Rattle.wh_option_parse.specs.Read.{options_from}
use Rattle.wh_option_parse.proofs.gathering.options.Given as goal

abbrev pub invariant-loop-turn : goal.invariant-loop-turn
invariant-loop-turn g l = (reader : _)
    → ReadsOption reader (λ alloc old parts r new. g.F.Fn.post l.option (alloc, (old, (parts, tt))) (r, (new, tt)))
    → options_from reader l.turns l.fn.first l.fn.words ≡ options_from reader (l.turns - l._turn) l.parts l.words
