use Rattle.std.proofs.Common.{◌≡◌, length}
use Rattle.wh_lex.specs.Front.{quoted_of}
use Rattle.wh_lex.proofs.QuoteLemmas.{grown}
use Rattle.wh_lex.proofs.quotes.quoted.Given as goal

abbrev pub invariant-bytes : goal.invariant-bytes
invariant-bytes l = grown l.inside.items (quoted_of l.quote l.rest) ≡ quoted_of l.quote l.bytes

abbrev pub decreases-bytes : goal.decreases-bytes
decreases-bytes l = length l.rest
