use Rattle.std.proofs.Common.{◌<◌, length, refl, sym, subst, rules}
use Rattle.std.specs.Prelude.{IfSome}
use Rattle.std.proofs.lemmas.Option.{slice_get_read}
use Rattle.wh_meaning.specs.Bag.{Bag}
use Rattle.wh_moves.specs.Widths.{IsWide}
use Rattle.wh_exec.proofs.SourceLaws.{source_there}
use Rattle.wh_plan.proofs.WidthLaws.{has_scan}
use Rattle.wh_plan.proofs.widths.scanned.Goals as goal

pub returns : goal.returns
returns c =
    let sources = c.args.sources.now in
    let at = c.args.place in
    let source = c.in_ok-source.source.now in
    let within : at < length sources = search rules in
    let found = slice_get_read sources (length sources) at source refl within c.in_ok-source.ensures.lookup.1 in
    has_scan _ at c.source_width.result
    (subst (λ (b : Bag). IfSome c.source_width.result (λ width. IsWide width b))
    (sym (source_there sources at source found)) c.source_width.ensures)
