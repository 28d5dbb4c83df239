use Rattle.wh_cursor.proofs.Names.{reads_names}
use Rattle.wh_cursor.proofs.Fronts.{name_is_front}
use Rattle.wh_cursor.proofs.reading.reading_laws.Goals as goal

pub returns : goal.returns
returns c = record { names = reads_names; front = name_is_front }
