-- What is found in parts of a text, put together.
use Rattle.std.proofs.Common.{◌≡◌, Bool, true, false, Option, Some, None, refl, ◌||◌}
use Rattle.std.proofs.Math.Bool.{or_assoc, or-false}
use Rattle.wh_naming.specs.Findings.{Findings, either, followed, nothing_found}

either_assoc : {A : Type 0} (a b c : Option A) → either (either a b) c ≡ either a (either b c)
either_assoc None b c = refl
either_assoc (Some x) b c = refl

either_none : {A : Type 0} (a : Option A) → either a None ≡ a
either_none None = refl
either_none (Some x) = refl

pub followed_assoc : (a b c : Findings) → followed (followed a b) c ≡ followed a (followed b c)
followed_assoc a b c i = record {
  unknown_object = either_assoc a.unknown_object b.unknown_object c.unknown_object i;
  wrong_kind = either_assoc a.wrong_kind b.wrong_kind c.wrong_kind i;
  unknown_column = either_assoc a.unknown_column b.unknown_column c.unknown_column i;
  taken = either_assoc a.taken b.taken c.taken i;
  is_mistyped = or_assoc a.is_mistyped b.is_mistyped c.is_mistyped i;
}

pub followed_nothing : (a : Findings) → followed a nothing_found ≡ a
followed_nothing a i = record {
  unknown_object = either_none a.unknown_object i;
  wrong_kind = either_none a.wrong_kind i;
  unknown_column = either_none a.unknown_column i;
  taken = either_none a.taken i;
  is_mistyped = or-false a.is_mistyped i;
}
