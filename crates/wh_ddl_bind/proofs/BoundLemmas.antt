-- SELECTs, changes, and what names nothing, as statements.
--     no_findings                   where no test fails nothing is found
--     select_bound, change_bound    a SELECT and a change that are meant
--     plain_bound                   a statement that names nothing
use Rattle.std.proofs.Common.{◌≡◌, refl, sym, ap, Bool, true, false, Option, Some, None}
use Rattle.wh_naming.specs.Findings.{Name, Findings, first_failing, nothing_found}
use Rattle.wh_naming.specs.Select as selects
use Rattle.wh_naming.specs.Changes as changes
use Rattle.wh_bind.specs.Binds as select_binds
use Rattle.wh_bind.specs.declared.select.BoundSelect.{BoundSelect}
use Rattle.wh_bound_change.specs.declared.change.BoundChange.{BoundChange}
use Rattle.wh_dml_bind.specs.Binds as change_binds
use Rattle.wh_ddl_naming.specs.Statements.{Select, Change, selected, changed, plain}
use Rattle.wh_ddl_bind.specs.View.{select_of, change_of, bound_of}
use Rattle.wh_ddl_bind.specs.Binds.{IsBound}
use Rattle.wh_ddl_bind.specs.declared.bound.Bound.{Bound}
use Rattle.wh_ddl_bind.specs.declared.bound.Bound.TheVariants as code

of_parts : (a b c d : Option Name) (e : Bool)
    → first_failing (record { unknown_object = a; wrong_kind = b; unknown_column = c; taken = d; is_mistyped = e })
    ≡ None
    → record { unknown_object = a; wrong_kind = b; unknown_column = c; taken = d; is_mistyped = e } ≡ nothing_found
unfolding first_failing
of_parts (Some x) b c d e h = absurd cc
of_parts None (Some x) c d e h = absurd cc
of_parts None None (Some x) d e h = absurd cc
of_parts None None None (Some x) e h = absurd cc
of_parts None None None None true h = absurd cc
of_parts None None None None false h = refl

no_findings : (f : Findings) → first_failing f ≡ None → f ≡ nothing_found
no_findings f h = of_parts f.unknown_object f.wrong_kind f.unknown_column f.taken f.is_mistyped h

pub select_bound : (b : BoundSelect) (s : selects.BoundSelect) → select_binds.IsBound b s
    → IsBound (code.Select b) (selected s)
select_bound b s h = record { nothing_found = h.nothing_found; bound = ap Select same }
  where
    same : select_of b ≡ s
    same i = record {
      query = h.query i;
      names = h.names i;
      sources = h.sources i;
      keys = h.keys i;
      findings = sym (no_findings s.findings h.nothing_found) i;
      is_wide = h.is_wide i;
    }

pub change_bound : (b : BoundChange) (s : changes.BoundChange) → change_binds.IsBound b s
    → IsBound (code.Change b) (changed s)
change_bound b s h = record { nothing_found = h.nothing_found; bound = ap Change same }
  where
    same : change_of b ≡ s
    same i = record {
      target = h.target i;
      change = h.change i;
      sources = h.sources i;
      findings = sym (no_findings s.findings h.nothing_found) i;
      is_wide = h.is_wide i;
    }

pub plain_bound : (b : Bound) → IsBound b (plain (bound_of b))
unfolding first_failing
plain_bound b = record { nothing_found = refl; bound = refl }
