use Rattle.std.proofs.Common.{refl}
use Rattle.wh_part.proofs.ReaderLaws.{text_passes, no_text}
use Rattle.wh_part.proofs.reading.tested.Goals as goal

pub returns-in-Ok : goal.returns-in-Ok
returns-in-Ok c =
    rw (text_passes c.args.bytes.now
    (record { utf8 = c.in-Ok.ensures.cases.1; short = c.if-bytes-gt-MAX_BYTES.false })) refl

pub returns-in-Err : goal.returns-in-Err
returns-in-Err c = rw (no_text c.args.bytes.now (λ is. c.in-Err.ensures.cases.0 is.utf8)) refl
