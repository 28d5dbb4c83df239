-- Dynamic tables stand for one moment.
--     IsOfOneMoment     the rows of a table are those of its query over tables alone for its moment
--     StandsAt          a dynamic table stands for a moment
--     refreshing        the event of ALTER DYNAMIC TABLE .. REFRESH
--     id_refreshed      the table that it names
use Rattle.std.specs.Prelude.{◌≡◌, ℕ, suc, ◌<◌, List, Some}
use Rattle.std.specs.Option.{IfSome}
use Rattle.std.specs.FinMap.{values}
use Rattle.wh_ast.specs.declared.statement.Statement.TheVariants as st
use Rattle.wh_grammar.specs.Spelled.{Asked}
use Rattle.wh_meaning.specs.Bag.{bag_of}
use Rattle.wh_naming.specs.Scope.{DynamicTableObject}
use Rattle.wh_ddl_naming.specs.Objects.{object_of}
use Rattle.wh_state.specs.State.{Object, Table, last_rows}
use Rattle.wh_state.specs.Dynamic.{Dynamic}
use Rattle.wh_state.specs.Objects.{table_at, dynamic_at}
use Rattle.wh_state.specs.Moments.{over_tables}
use Rattle.wh_machine.specs.Names.{names_in}
use Rattle.wh_machine.specs.Step.{Event, Command}

-- each dynamic table upstream is written out as its query; what one reads has a lower id, so there are layers enough
abbrev pub IsOfOneMoment : List Object → ℕ → Type 0
IsOfOneMoment objects id = (d : Dynamic) (t : Table) → dynamic_at objects id ≡ Some d → table_at objects id ≡ Some t
    → 0 < d.state.moment → over_tables (suc id) objects d.state.moment id ≡ Some (bag_of (values (last_rows t)))

abbrev pub StandsAt : ℕ → List Object → ℕ → Type 0
StandsAt moment objects id = IfSome (dynamic_at objects id) (λ d. d.state.moment ≡ moment)

abbrev pub refreshing : ℕ → ℕ → List ℕ → Event
refreshing reading session name = Command reading session (Asked (st.RefreshDynamicTable name))

-- the live dynamic table of a name
abbrev pub id_refreshed : List Object → List ℕ → ℕ
id_refreshed objects name = (object_of DynamicTableObject (names_in objects) name).value
