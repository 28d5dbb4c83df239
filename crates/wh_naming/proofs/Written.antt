-- Statements written out as trees, over a few objects, and what they stand for by their parts.
--     objects       tables T(K NUMBER, V NUMBER), U(K NUMBER) and W(K NUMBER, B BOOLEAN), a task A,
--                   a stream S(K NUMBER) and a dynamic table D(K NUMBER)
--     WrittenQuery  a query with what it stands for
--     layers        what an expression stands for, over what its parts stand for
use Rattle.std.specs.Prelude.{◌≡◌, refl, ℕ, Bool, true, false, List, [], ◌∷◌, map, Option, Some, None, codes, pos}
use Rattle.std.proofs.Common.{ap, ◌∙◌}
use Rattle.wh_value.specs.declared.value.Value as value
use Rattle.wh_value.specs.declared.value.Value.TheVariants as values
use Rattle.wh_value.specs.declared.comparison.Comparison.{Comparison}
use Rattle.wh_value.specs.declared.comparison.Comparison.TheVariants as comparisons
use Rattle.wh_value.specs.Column.{Column, NumberType, BooleanType}
use Rattle.wh_ast.specs.declared.expr.Operator.{Operator}
use Rattle.wh_ast.specs.declared.expr.Operator.TheVariants as operators
use Rattle.wh_ast.specs.declared.expr.Expr.{Expr, roll-Expr, fold-roll-Expr, out-roll-Expr}
use Rattle.wh_ast.specs.declared.expr.Expr.TheOpen.{Expr-F}
use Rattle.wh_ast.specs.declared.query.Item.{Item}
use Rattle.wh_ast.specs.declared.query.Item.TheVariants as items
use Rattle.wh_ast.specs.declared.query.FromItem.{FromItem, roll-FromItem, fold-roll-FromItem, fold-FromItem}
use Rattle.wh_ast.specs.declared.query.FromItem.TheOpen.{FromItem-F}
use Rattle.wh_ast.specs.declared.query.Join.{Join, roll-Join, fold-roll-Join, fold-Join}
use Rattle.wh_ast.specs.declared.query.Core.{Core, roll-Core, fold-roll-Core, fold-Core}
use Rattle.wh_ast.specs.declared.query.Query.{Query, roll-Query, fold-roll-Query}
use Rattle.wh_naming.specs.Findings.{Name}
use Rattle.wh_naming.specs.Scope.{Named, TableObject, StreamObject, TaskObject, DynamicTableObject}
use Rattle.wh_naming.specs.Typing.{Reading, Context, Typed, step, typed}
use Rattle.wh_naming.specs.Select.{SourcePart, QueryReading, JoinPart, bound_query, source_step, core_step, join_step}
use Rattle.wh_naming.specs.Select.{query_step}

-- ---- the objects

abbrev number_column : Name → Column
number_column name = record { name = name; column_type = NumberType }

abbrev boolean_column : Name → Column
boolean_column name = record { name = name; column_type = BooleanType }

abbrev pub k : Name
k = codes "K"

abbrev pub v : Name
v = codes "V"

abbrev pub name_a : Name
name_a = codes "A"

abbrev pub name_b : Name
name_b = codes "B"

abbrev pub name_d : Name
name_d = codes "D"

abbrev pub name_n : Name
name_n = codes "N"

abbrev pub name_q : Name
name_q = codes "Q"

abbrev pub name_s : Name
name_s = codes "S"

abbrev pub name_t : Name
name_t = codes "T"

abbrev pub name_u : Name
name_u = codes "U"

abbrev pub name_w : Name
name_w = codes "W"

abbrev pub name_x : Name
name_x = codes "X"

abbrev pub name_y : Name
name_y = codes "Y"

abbrev pub name_z : Name
name_z = codes "Z"

abbrev pub t_columns : List Column
t_columns = number_column k ∷ number_column v ∷ []

abbrev pub objects : List Named
objects = (record { name = name_t; id = 1; kind = TableObject; columns = t_columns })
    ∷ (record { name = name_u; id = 2; kind = TableObject; columns = number_column k ∷ [] })
    ∷ (record { name = name_w; id = 3; kind = TableObject; columns = number_column k ∷ boolean_column name_b ∷ [] })
    ∷ (record { name = name_a; id = 4; kind = TaskObject; columns = [] })
    ∷ (record { name = name_s; id = 5; kind = StreamObject; columns = number_column k ∷ [] })
    ∷ (record { name = name_d; id = 6; kind = DynamicTableObject; columns = number_column k ∷ [] }) ∷ []

-- ---- expressions

abbrev pub const : value.Value → Expr
const c = roll-Expr (Expr-F.Const c)

abbrev pub number : ℕ → Expr
number n = const (values.Number (pos n))

abbrev pub truth : Expr
truth = const (values.Bool true)

abbrev pub text : Expr
text = const (values.Text (codes "a"))

abbrev pub null : Expr
null = const values.Null

-- a column without and with its entry's name
abbrev pub column : Name → Expr
column name = roll-Expr (Expr-F.Column None name)

abbrev pub column_in : Name → Name → Expr
column_in entry name = roll-Expr (Expr-F.Column (Some entry) name)

abbrev pub binary : Operator → Expr → Expr → Expr
binary operator x y = roll-Expr (Expr-F.Binary operator x y)

abbrev pub plus : Expr → Expr → Expr
plus x y = binary operators.Add x y

abbrev pub compare : Comparison → Expr → Expr → Expr
compare comparison x y = binary (operators.Compare comparison) x y

abbrev pub equal : Expr → Expr → Expr
equal x y = compare comparisons.Equal x y

abbrev pub both : Expr → Expr → Expr
both x y = binary operators.And x y

abbrev pub negative : Expr → Expr
negative x = roll-Expr (Expr-F.Neg x)

abbrev pub between : Expr → Expr → Expr → Expr
between x low high = roll-Expr (Expr-F.Between false x low high)

abbrev pub count_of : Expr → Expr
count_of x = roll-Expr (Expr-F.Count x)

abbrev pub or : Expr → Expr → Expr
or x y = binary operators.Or x y

abbrev pub not_ : Expr → Expr
not_ x = roll-Expr (Expr-F.Not x)

abbrev pub is_null : Bool → Expr → Expr
is_null negated x = roll-Expr (Expr-F.IsNull negated x)

abbrev pub among : Expr → List Expr → Expr
among x xs = roll-Expr (Expr-F.In false x xs)

abbrev pub sum : Expr → Expr
sum x = roll-Expr (Expr-F.Sum x)

abbrev pub count_rows : Expr
count_rows = roll-Expr Expr-F.CountRows

-- ---- queries

abbrev pub shown : Expr → Item
shown x = items.Expr x None

-- one item
abbrev pub only : Expr → List Item
only x = shown x ∷ []

abbrev pub shown_as : Expr → Name → Item
shown_as x alias = items.Expr x (Some alias)

abbrev pub source_part : FromItem → SourcePart
source_part s = fold-FromItem SourcePart QueryReading JoinPart QueryReading source_step core_step join_step query_step s

abbrev pub join_part : Join → JoinPart
join_part j = fold-Join SourcePart QueryReading JoinPart QueryReading source_step core_step join_step query_step j

abbrev pub core_reading : Core → QueryReading
core_reading c = fold-Core SourcePart QueryReading JoinPart QueryReading source_step core_step join_step query_step c

-- sources, joins, cores and queries, each with what it stands for

pub record WrittenSource : Type 0 where
  pub tree : FromItem
  pub part : SourcePart
  pub is : source_part tree ≡ part

pub record WrittenJoin : Type 0 where
  pub tree : Join
  pub part : JoinPart
  pub is : join_part tree ≡ part

pub record WrittenCore : Type 0 where
  pub tree : Core
  pub reading : QueryReading
  pub is : core_reading tree ≡ reading

pub record WrittenQuery : Type 0 where
  pub tree : Query
  pub reading : QueryReading
  pub is : bound_query tree ≡ reading

abbrev pub named_source : Name → Option Name → WrittenSource
named_source name alias = record {
  tree = roll-FromItem (FromItem-F.Named name alias);
  part = source_step (FromItem-F.Named name alias);
  is = fold-roll-FromItem SourcePart QueryReading JoinPart QueryReading source_step core_step join_step query_step
      (FromItem-F.Named name alias);
}

abbrev pub object : Name → WrittenSource
object name = named_source name None

abbrev pub object_as : Name → Name → WrittenSource
object_as name alias = named_source name (Some alias)

abbrev pub subquery : WrittenQuery → Name → WrittenSource
subquery q alias = record {
  tree = roll-FromItem (FromItem-F.Subquery q.tree alias);
  part = source_step (FromItem-F.Subquery q.reading alias);
  is = fold-roll-FromItem SourcePart QueryReading JoinPart QueryReading source_step core_step join_step query_step
      (FromItem-F.Subquery q.tree alias)
      ∙ ap (λ (r : QueryReading). source_step (FromItem-F.Subquery r alias)) q.is;
}

abbrev pub join : WrittenSource → Expr → WrittenJoin
join source on = record {
  tree = roll-Join (record { source = source.tree; on = on });
  part = join_step (record { source = source.part; on = on });
  is = fold-roll-Join SourcePart QueryReading JoinPart QueryReading source_step core_step join_step query_step
      (record { source = source.tree; on = on })
      ∙ ap (λ (p : SourcePart). join_step (record { source = p; on = on })) source.is;
}

abbrev pub join_trees : List WrittenJoin → List Join
join_trees [] = []
join_trees (j ∷ js) = j.tree ∷ join_trees js

abbrev pub join_parts : List WrittenJoin → List JoinPart
join_parts [] = []
join_parts (j ∷ js) = j.part ∷ join_parts js

pub are_parts : (js : List WrittenJoin) → map join_part (join_trees js) ≡ join_parts js
are_parts [] = refl
are_parts (j ∷ js) = ap (λ p. p ∷ map join_part (join_trees js)) j.is ∙ ap (λ ps. j.part ∷ ps) (are_parts js)

abbrev pub core : List Item → WrittenSource → List WrittenJoin → Option Expr → List Expr → WrittenCore
core shown from joins filter group = record {
  tree = roll-Core (record {
    items = shown;
    from = from.tree;
    joins = join_trees joins;
    filter = filter;
    group = group;
  });
  reading = core_step (record {
    items = shown;
    from = from.part;
    joins = join_parts joins;
    filter = filter;
    group = group;
  });
  is = fold-roll-Core SourcePart QueryReading JoinPart QueryReading source_step core_step join_step query_step
      (record { items = shown; from = from.tree; joins = join_trees joins; filter = filter; group = group })
      ∙ ap (λ (p : SourcePart). core_step (record {
        items = shown;
        from = p;
        joins = map join_part (join_trees joins);
        filter = filter;
        group = group;
      })) from.is
      ∙ ap (λ (ps : List JoinPart). core_step (record {
        items = shown;
        from = from.part;
        joins = ps;
        filter = filter;
        group = group;
      })) (are_parts joins);
}

abbrev pub core_trees : List WrittenCore → List Core
core_trees [] = []
core_trees (c ∷ cs) = c.tree ∷ core_trees cs

abbrev pub readings : List WrittenCore → List QueryReading
readings [] = []
readings (c ∷ cs) = c.reading ∷ readings cs

pub are_readings : (cs : List WrittenCore) → map core_reading (core_trees cs) ≡ readings cs
are_readings [] = refl
are_readings (c ∷ cs) = ap (λ r. r ∷ map core_reading (core_trees cs)) c.is ∙ ap (λ rs. c.reading ∷ rs)
    (are_readings cs)

abbrev pub query : List WrittenCore → WrittenQuery
query cores = record {
  tree = roll-Query (record { cores = core_trees cores });
  reading = query_step (record { cores = readings cores });
  is = fold-roll-Query SourcePart QueryReading JoinPart QueryReading source_step core_step join_step query_step
      (record { cores = core_trees cores })
      ∙ ap (λ (rs : List QueryReading). query_step (record { cores = rs })) (are_readings cores);
}

-- SELECT items FROM source
abbrev pub select : List Item → WrittenSource → WrittenQuery
select shown from = query (core shown from [] None [] ∷ [])

-- ---- what an expression stands for, over what its parts stand for

-- in a context, behind that many calls
abbrev seen : Context → ℕ → Reading → Typed
seen context calls r = r context calls

pub of_const : (c : value.Value) (context : Context) (calls : ℕ) → typed (const c) context calls ≡ step
    (Expr-F.Const c) context calls
of_const c context calls = ap (seen context calls) (fold-roll-Expr Reading step (Expr-F.Const c))

pub of_column : (entry : Option Name) (name : Name) (context : Context) (calls : ℕ)
    → typed (roll-Expr (Expr-F.Column entry name)) context calls ≡ step (Expr-F.Column entry name) context calls
of_column entry name context calls = ap (seen context calls) (fold-roll-Expr Reading step (Expr-F.Column entry name))

pub of_binary : (operator : Operator) (x y : Expr) (context : Context) (calls : ℕ)
    → typed (binary operator x y) context calls ≡ step (Expr-F.Binary operator (typed x) (typed y)) context calls
of_binary operator x y context calls = ap (seen context calls)
    (fold-roll-Expr Reading step (Expr-F.Binary operator x y))

pub of_not : (x : Expr) (context : Context) (calls : ℕ) → typed (not_ x) context calls ≡ step (Expr-F.Not (typed x))
    context calls
of_not x context calls = ap (seen context calls) (fold-roll-Expr Reading step (Expr-F.Not x))

pub of_is_null : (negated : Bool) (x : Expr) (context : Context) (calls : ℕ) → typed (is_null negated x) context calls
    ≡ step (Expr-F.IsNull negated (typed x)) context calls
of_is_null negated x context calls = ap (seen context calls) (fold-roll-Expr Reading step (Expr-F.IsNull negated x))

pub of_among : (x : Expr) (xs : List Expr) (context : Context) (calls : ℕ) → typed (among x xs) context calls ≡ step
    (Expr-F.In false (typed x) (map typed xs)) context calls
of_among x xs context calls = ap (seen context calls) (fold-roll-Expr Reading step (Expr-F.In false x xs))

pub of_sum : (x : Expr) (context : Context) (calls : ℕ) → typed (sum x) context calls ≡ step (Expr-F.Sum (typed x))
    context calls
of_sum x context calls = ap (seen context calls) (fold-roll-Expr Reading step (Expr-F.Sum x))

pub of_count_rows : (context : Context) (calls : ℕ) → typed count_rows context calls ≡ step Expr-F.CountRows context
    calls
of_count_rows context calls = ap (seen context calls) (fold-roll-Expr Reading step Expr-F.CountRows)

pub of_negative : (x : Expr) (context : Context) (calls : ℕ) → typed (negative x) context calls ≡ step
    (Expr-F.Neg (typed x)) context calls
of_negative x context calls = ap (seen context calls) (fold-roll-Expr Reading step (Expr-F.Neg x))

pub of_between : (x low high : Expr) (context : Context) (calls : ℕ)
    → typed (between x low high) context calls ≡ step (Expr-F.Between false (typed x) (typed low) (typed high))
    context calls
of_between x low high context calls = ap (seen context calls)
    (fold-roll-Expr Reading step (Expr-F.Between false x low high))

pub of_count : (x : Expr) (context : Context) (calls : ℕ) → typed (count_of x) context calls ≡ step
    (Expr-F.Count (typed x)) context calls
of_count x context calls = ap (seen context calls) (fold-roll-Expr Reading step (Expr-F.Count x))

pub ruleset layers = (
  of_const,
  of_column,
  of_negative,
  of_between,
  of_count,
  of_binary,
  of_not,
  of_is_null,
  of_among,
  of_sum,
  of_count_rows,
  out-roll-Expr,
)
