use Rattle.std.proofs.Common.{◌≡◌, Bool, true, false, refl}
use Rattle.std.specs.Prelude.{◌&&◌}
use Rattle.wh_machine.proofs.OtherwiseLaws.{stays}
use Rattle.wh_machine.proofs.RunLaws.{others_stay}
use Rattle.wh_engine.proofs.laws.what_consumes_nothing_moves_nothing.Goals as goal

none : (b : Bool) → (b && false) ≡ false
none true = refl
none false = refl

pub returns : goal.returns
returns c = record {
  others = stays;
  ticks = others_stay;
  queries = λ reading session query sorts m id s at. stays m _ id s at (none _);
}
