-- What is found wrong with a statement.
--     Findings       for each test the first name in the text that fails it, and whether anything is mistyped
--     followed       what is found in a part of a text, and then in the next
--     first_failing  the first failing test, each over the whole statement before the next one
use Rattle.std.specs.Prelude.{ℕ, Bool, false, ◌||◌, if◌then◌else◌, List, Option, Some, None, option_map}

abbrev pub Name : Type 0
Name = List ℕ

pub record Findings : Type 0 where
  pub unknown_object : Option Name
  pub wrong_kind : Option Name
  pub unknown_column : Option Name
  pub taken : Option Name
  pub is_mistyped : Bool

abbrev pub nothing_found : Findings
nothing_found =
    record { unknown_object = None; wrong_kind = None; unknown_column = None; taken = None; is_mistyped = false }

abbrev pub either : {A : Type 0} → Option A → Option A → Option A
either None b = b
either (Some a) b = Some a

abbrev pub followed : Findings → Findings → Findings
followed a b = record {
  unknown_object = either a.unknown_object b.unknown_object;
  wrong_kind = either a.wrong_kind b.wrong_kind;
  unknown_column = either a.unknown_column b.unknown_column;
  taken = either a.taken b.taken;
  is_mistyped = a.is_mistyped || b.is_mistyped;
}

abbrev pub name_if : Bool → Name → Option Name
name_if b name = if b then Some name else None

abbrev pub unknown_object : Name → Findings
unknown_object name = record nothing_found { unknown_object = Some name }

abbrev pub wrong_kind_if : Bool → Name → Findings
wrong_kind_if b name = record nothing_found { wrong_kind = name_if b name }

abbrev pub unknown_column : Name → Findings
unknown_column name = record nothing_found { unknown_column = Some name }

abbrev pub taken_if : Bool → Name → Findings
taken_if b name = record nothing_found { taken = name_if b name }

abbrev pub mistyped_if : Bool → Findings
mistyped_if b = record nothing_found { is_mistyped = b }

pub data Failing : Type 0 where
  UnknownName : Name → Failing
  WrongKind : Name → Failing
  NameTaken : Name → Failing
  TypeMismatch : Failing

abbrev pub mistyped : Bool → Option Failing
mistyped b = if b then Some TypeMismatch else None

unfoldable pub first_failing : Findings → Option Failing
first_failing f =
    either (option_map UnknownName f.unknown_object)
    (either (option_map WrongKind f.wrong_kind)
    (either (option_map UnknownName f.unknown_column)
    (either (option_map NameTaken f.taken)
    (mistyped f.is_mistyped))))
