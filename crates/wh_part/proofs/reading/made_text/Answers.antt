use Rattle.std.proofs.Common.{Some, ap, refl, sym}
use Rattle.wh_part.proofs.ReaderLaws.{text_passes, no_text}
use Rattle.wh_part.proofs.reading.made_text.Goals as goal

pub returns-in_ok-made-in-Some : goal.returns-in_ok-made-in-Some
returns-in_ok-made-in-Some c =
    let same = rw (c.in_ok-made-in-Some.was) at c.in-Some.ensures.found.1 in
    rw (text_passes c.args.bytes.now c.in-Some.ensures.found.0) (ap Some (sym same))

pub returns-in-None : goal.returns-in-None
returns-in-None c = rw (no_text c.args.bytes.now c.in-None.ensures.none) refl
