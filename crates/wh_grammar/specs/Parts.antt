-- Parts of statements: columns, options at the end, sort keys, lags, conditions and
-- options of tasks and dynamic tables.
use Rattle.std.specs.Prelude.{◌≡◌, ℕ, suc, ◌≤◌, Bool, true, false, List, [], ◌∷◌, Option, Some, None, codes}
use Rattle.wh_value.specs.declared.column.ColumnType.{ColumnType}
use Rattle.wh_value.specs.declared.column.ColumnType.TheVariants as types
use Rattle.wh_value.specs.declared.column.Column.{Column}
use Rattle.wh_ast.specs.declared.query.Sort.{Sort}
use Rattle.wh_ast.specs.declared.query.OrderKey.{OrderKey}
use Rattle.wh_ast.specs.declared.query.OrderKey.TheVariants as key
use Rattle.wh_ast.specs.declared.statement.WhenCondition.{WhenCondition}
use Rattle.wh_ast.specs.declared.statement.WhenCondition.TheVariants as c
use Rattle.wh_ast.specs.declared.statement.Lag.{Lag}
use Rattle.wh_ast.specs.declared.statement.Lag.TheVariants as lag
use Rattle.wh_ast.specs.declared.statement.RefreshMode.{RefreshMode}
use Rattle.wh_ast.specs.declared.statement.RefreshMode.TheVariants as mode
use Rattle.wh_ast.specs.declared.statement.Initialize.{Initialize}
use Rattle.wh_ast.specs.declared.statement.Initialize.TheVariants as init
use Rattle.wh_grammar.specs.Token.{Token, Word, TextToken, NumberToken, SignToken, LParen, RParen, Comma, Equal}
use Rattle.wh_grammar.specs.Name.{IsName}
use Rattle.wh_grammar.specs.OptionText.{IsSchedule, IsLagText, IsNameText}

-- a column's type, by any of its names
pub data IsType : List ℕ → ColumnType → Type 0 where
  number : IsType (codes "NUMBER") types.Number
  int : IsType (codes "INT") types.Number
  integer : IsType (codes "INTEGER") types.Number
  bigint : IsType (codes "BIGINT") types.Number
  varchar : IsType (codes "VARCHAR") types.Varchar
  string : IsType (codes "STRING") types.Varchar
  text : IsType (codes "TEXT") types.Varchar
  boolean : IsType (codes "BOOLEAN") types.Boolean

pub data AreColumns : List Token → List Column → List Token → Type 0 where
  last_column : {ts us : List Token} {name w : List ℕ} {type : ColumnType}
      → IsName ts name (Word w ∷ us)
      → IsType w type
      → AreColumns ts (record { name = name; column_type = type } ∷ []) us
  more_columns : {ts us vs : List Token} {name w : List ℕ} {type : ColumnType} {more : List Column}
      → IsName ts name (Word w ∷ SignToken Comma ∷ us)
      → IsType w type
      → AreColumns us more vs
      → AreColumns ts (record { name = name; column_type = type } ∷ more) vs

-- [OR REPLACE]
pub data MayReplace : List Token → Bool → List Token → Type 0 where
  no_replace : {ts : List Token} → MayReplace ts false ts
  or_replace : {ts : List Token} → MayReplace (Word (codes "OR") ∷ Word (codes "REPLACE") ∷ ts) true ts

-- [DATA_RETENTION_TIME_IN_DAYS = number], at the end
pub data MayRetain : List Token → Option ℕ → Type 0 where
  no_retention : MayRetain [] None
  retention : {n : ℕ}
      → MayRetain (Word (codes "DATA_RETENTION_TIME_IN_DAYS") ∷ SignToken Equal ∷ NumberToken n ∷ []) (Some n)

-- [APPEND_ONLY = TRUE | APPEND_ONLY = FALSE], at the end
pub data MayAppend : List Token → Bool → Type 0 where
  no_append : MayAppend [] false
  append_true : MayAppend (Word (codes "APPEND_ONLY") ∷ SignToken Equal ∷ Word (codes "TRUE") ∷ []) true
  append_false : MayAppend (Word (codes "APPEND_ONLY") ∷ SignToken Equal ∷ Word (codes "FALSE") ∷ []) false

-- [ASC | DESC]
pub data IsDirection : List Token → Bool → List Token → Type 0 where
  no_direction : {ts : List Token} → IsDirection ts false ts
  ascending : {ts : List Token} → IsDirection (Word (codes "ASC") ∷ ts) false ts
  descending : {ts : List Token} → IsDirection (Word (codes "DESC") ∷ ts) true ts

-- name | number
pub data IsKey : List Token → OrderKey → List Token → Type 0 where
  key_name : {ts us : List Token} {name : List ℕ} → IsName ts name us → IsKey ts (key.Name name) us
  key_position : {us : List Token} {n : ℕ} → IsKey (NumberToken n ∷ us) (key.Position n) us

-- one key or more to the end
pub data AreSorts : List Token → List Sort → Type 0 where
  last_sort : {ts us : List Token} {k : OrderKey} {d : Bool}
      → IsKey ts k us
      → IsDirection us d []
      → AreSorts ts (record { key = k; descending = d } ∷ [])
  more_sorts : {ts us vs : List Token} {k : OrderKey} {d : Bool} {more : List Sort}
      → IsKey ts k us
      → IsDirection us d (SignToken Comma ∷ vs)
      → AreSorts vs more
      → AreSorts ts (record { key = k; descending = d } ∷ more)

-- [ORDER BY key {, key}], at the end
pub data MayHaveOrder : List Token → List Sort → Type 0 where
  no_order : MayHaveOrder [] []
  an_order : {ts : List Token} {sorts : List Sort}
      → AreSorts ts sorts
      → MayHaveOrder (Word (codes "ORDER") ∷ Word (codes "BY") ∷ ts) sorts

-- DOWNSTREAM | text
pub data IsLag : List Token → Lag → List Token → Type 0 where
  downstream : {us : List Token} → IsLag (Word (codes "DOWNSTREAM") ∷ us) lag.Downstream us
  lag_text : {us : List Token} {bytes : List ℕ} {l : Lag} → IsLagText bytes l → IsLag (TextToken bytes ∷ us) l us

-- SYSTEM$STREAM_HAS_DATA ( text )
pub data AsksForData : List Token → List ℕ → List Token → Type 0 where
  asks : {us : List Token} {bytes name : List ℕ}
      → IsNameText bytes name
      → AsksForData (Word (codes "SYSTEM$STREAM_HAS_DATA") ∷ SignToken LParen ∷ TextToken bytes
      ∷ SignToken RParen ∷ us) name us

-- ---- conditions of tasks: cand {OR cand}, cnot {AND cnot}, NOT cnot

mutual
  pub data IsCondition : ℕ → List Token → WhenCondition → List Token → Type 0 where
    one_cand : {d : ℕ} {ts us : List Token} {x : WhenCondition} → IsAndCondition d ts x us → IsCondition d ts x us
    or_condition : {d : ℕ} {ts us vs : List Token} {x y : WhenCondition}
        → IsCondition d ts x (Word (codes "OR") ∷ us)
        → IsAndCondition d us y vs
        → IsCondition d ts (c.Or x y) vs

  pub data IsAndCondition : ℕ → List Token → WhenCondition → List Token → Type 0 where
    one_cnot : {d : ℕ} {ts us : List Token} {x : WhenCondition} → IsNotCondition d ts x us → IsAndCondition d ts x us
    and_condition : {d : ℕ} {ts us vs : List Token} {x y : WhenCondition}
        → IsAndCondition d ts x (Word (codes "AND") ∷ us)
        → IsNotCondition d us y vs
        → IsAndCondition d ts (c.And x y) vs

  pub data IsNotCondition : ℕ → List Token → WhenCondition → List Token → Type 0 where
    not_condition : {d : ℕ} {ts us : List Token} {x : WhenCondition}
        → IsNotCondition d ts x us
        → IsNotCondition (suc d) (Word (codes "NOT") ∷ ts) (c.Not x) us
    inner_condition : {d : ℕ} {ts us : List Token} {x : WhenCondition}
        → IsCondition d ts x (SignToken RParen ∷ us)
        → IsNotCondition (suc d) (SignToken LParen ∷ ts) x us
    has_data : {d : ℕ} {ts us : List Token} {name : List ℕ}
        → AsksForData ts name us
        → IsNotCondition (suc d) ts (c.HasData name) us

-- ---- options, in any order

pub data TaskOption : Type 0 where
  Warehouse : TaskOption
  Schedule : ℕ → TaskOption

pub data AreTaskOptions : List Token → List TaskOption → List Token → Type 0 where
  no_more : {ts : List Token} → AreTaskOptions ts [] ts
  warehouse : {ts us vs : List Token} {name : List ℕ} {more : List TaskOption}
      → IsName ts name us
      → AreTaskOptions us more vs
      → AreTaskOptions (Word (codes "WAREHOUSE") ∷ SignToken Equal ∷ ts) (Warehouse ∷ more) vs
  schedule : {us vs : List Token} {bytes : List ℕ} {n : ℕ} {more : List TaskOption}
      → IsSchedule bytes n
      → AreTaskOptions us more vs
      → AreTaskOptions (Word (codes "SCHEDULE") ∷ SignToken Equal ∷ TextToken bytes ∷ us) (Schedule n ∷ more) vs

-- each at most once: what the schedule is
pub data TaskOptionsGive : List TaskOption → Option ℕ → Type 0 where
  nothing : TaskOptionsGive [] None
  warehouse_alone : TaskOptionsGive (Warehouse ∷ []) None
  schedule_alone : {n : ℕ} → TaskOptionsGive (Schedule n ∷ []) (Some n)
  schedule_first : {n : ℕ} → TaskOptionsGive (Schedule n ∷ Warehouse ∷ []) (Some n)
  schedule_last : {n : ℕ} → TaskOptionsGive (Warehouse ∷ Schedule n ∷ []) (Some n)

pub data TableOption : Type 0 where
  TargetLag : Lag → TableOption
  TableWarehouse : TableOption
  Mode : RefreshMode → TableOption
  Initialized : Initialize → TableOption

pub data IsMode : Token → RefreshMode → Type 0 where
  auto : IsMode (Word (codes "AUTO")) mode.Auto
  full : IsMode (Word (codes "FULL")) mode.Full
  incremental : IsMode (Word (codes "INCREMENTAL")) mode.Incremental

pub data IsInitialize : Token → Initialize → Type 0 where
  on_create : IsInitialize (Word (codes "ON_CREATE")) init.OnCreate
  on_schedule : IsInitialize (Word (codes "ON_SCHEDULE")) init.OnSchedule

pub data AreTableOptions : List Token → List TableOption → List Token → Type 0 where
  no_more_table : {ts : List Token} → AreTableOptions ts [] ts
  target_lag : {ts us vs : List Token} {l : Lag} {more : List TableOption}
      → IsLag ts l us
      → AreTableOptions us more vs
      → AreTableOptions (Word (codes "TARGET_LAG") ∷ SignToken Equal ∷ ts) (TargetLag l ∷ more) vs
  table_warehouse : {ts us vs : List Token} {name : List ℕ} {more : List TableOption}
      → IsName ts name us
      → AreTableOptions us more vs
      → AreTableOptions (Word (codes "WAREHOUSE") ∷ SignToken Equal ∷ ts) (TableWarehouse ∷ more) vs
  refresh_mode : {t : Token} {us vs : List Token} {m : RefreshMode} {more : List TableOption}
      → IsMode t m
      → AreTableOptions us more vs
      → AreTableOptions (Word (codes "REFRESH_MODE") ∷ SignToken Equal ∷ t ∷ us) (Mode m ∷ more) vs
  initialize : {t : Token} {us vs : List Token} {i : Initialize} {more : List TableOption}
      → IsInitialize t i
      → AreTableOptions us more vs
      → AreTableOptions (Word (codes "INITIALIZE") ∷ SignToken Equal ∷ t ∷ us) (Initialized i ∷ more) vs

abbrev pub lags_in : List TableOption → List Lag
lags_in [] = []
lags_in (TargetLag l ∷ more) = l ∷ lags_in more
lags_in (TableWarehouse ∷ more) = lags_in more
lags_in (Mode m ∷ more) = lags_in more
lags_in (Initialized i ∷ more) = lags_in more

abbrev pub modes_in : List TableOption → List RefreshMode
modes_in [] = []
modes_in (TargetLag l ∷ more) = modes_in more
modes_in (TableWarehouse ∷ more) = modes_in more
modes_in (Mode m ∷ more) = m ∷ modes_in more
modes_in (Initialized i ∷ more) = modes_in more

abbrev pub initialized_in : List TableOption → List Initialize
initialized_in [] = []
initialized_in (TargetLag l ∷ more) = initialized_in more
initialized_in (TableWarehouse ∷ more) = initialized_in more
initialized_in (Mode m ∷ more) = initialized_in more
initialized_in (Initialized i ∷ more) = i ∷ initialized_in more

abbrev pub warehouses_in : List TableOption → ℕ
warehouses_in [] = 0
warehouses_in (TargetLag l ∷ more) = warehouses_in more
warehouses_in (TableWarehouse ∷ more) = suc (warehouses_in more)
warehouses_in (Mode m ∷ more) = warehouses_in more
warehouses_in (Initialized i ∷ more) = warehouses_in more

-- what is written, once at most, or what stands for nothing
pub data IsChosen {A : Type 0} (default : A) : List A → A → Type 0 where
  by_default : IsChosen default [] default
  as_written : {x : A} → IsChosen default (x ∷ []) x

-- each at most once, and the lag is there
pub record TableOptionsGive (options : List TableOption) (l : Lag) (m : RefreshMode) (i : Initialize) : Type 0 where
  pub lag : lags_in options ≡ l ∷ []
  pub mode : IsChosen mode.Auto (modes_in options) m
  pub initialize : IsChosen init.OnCreate (initialized_in options) i
  pub warehouse : warehouses_in options ≤ 1
