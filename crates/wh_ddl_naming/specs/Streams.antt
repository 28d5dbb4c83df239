-- CREATE STREAM.
--     NewStream       the stream, with its table's id
--     bound_stream    of a statement as it is written
use Rattle.std.specs.Prelude.{ℕ, Bool}
use Rattle.wh_naming.specs.Findings.{Name}
use Rattle.wh_naming.specs.Scope.{TableObject}
use Rattle.wh_ddl_naming.specs.Meant.{Meant}
use Rattle.wh_ddl_naming.specs.Objects.{Names, object_of, taken_name}

pub record NewStream : Type 0 where
  pub name : Name
  pub table : ℕ
  pub is_append_only : Bool

abbrev pub bound_stream : Names → Name → Name → Bool → Meant NewStream
bound_stream names name table is_append_only = on (object_of TableObject names table)
  where
    on : Meant ℕ → Meant NewStream
    on t = record {
      value = record { name = name; table = t.value; is_append_only = is_append_only };
      taken_object = taken_name names name;
      findings = t.findings;
    }
