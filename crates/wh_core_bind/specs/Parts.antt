-- Parts of a core.
--     filter_of         the scalar of WHERE
--     filtered          a query below a condition, if there is one
--     projected_from    items over rows, or over the groups of rows
--     found_in_groups   what is found wrong with items over groups
--     finished          a core of its parts
use Rattle.std.specs.Prelude.{ℕ, Bool, true, false, not, ◌||◌, List, Option, Some, None, option_map, is_some}
use Rattle.std.specs.List.{list_any}
use Rattle.wh_ast.specs.declared.expr.Expr.{Expr}
use Rattle.wh_meaning.specs.Scalar.{Scalar}
use Rattle.wh_meaning.specs.Query.{Query, Call, Filter, Project, Group}
use Rattle.wh_naming.specs.Findings.{Findings, nothing_found, mistyped_if, followed}
use Rattle.wh_naming.specs.Grouping.{regrouped}
use Rattle.wh_naming.specs.Scope.{Entry}
use Rattle.wh_naming.specs.Select.{BoundQuery, Shown, plain, regrouped_all, is_too_wide}

abbrev pub filter_of : List Entry → Option Expr → Option Scalar
filter_of entries filter = option_map (λ e. (plain entries e).scalar) filter

abbrev pub filtered : Query → Option Scalar → Query
filtered q None = q
filtered q (Some e) = Filter q e

abbrev pub projected_from : Bool → Query → List Scalar → ℕ → List Scalar → List Call → Query
projected_from false q keys width scalars calls = Project q scalars
projected_from true q keys width scalars calls = Project (Group q keys calls) (regrouped_all keys width scalars)

abbrev pub found_in_groups : Bool → Bool → List Scalar → ℕ → List Scalar → Findings
found_in_groups false has_star keys width scalars = nothing_found
found_in_groups true has_star keys width scalars =
    mistyped_if (has_star || list_any (λ s. not (is_some (regrouped keys width s))) scalars)

-- a core of these parts; `found` is what is found below its items
abbrev pub finished : Bool → Query → List ℕ → Bool → Findings → List Scalar → ℕ → Shown → BoundQuery
finished is_grouped rows sources is_wide found keys width shown = record {
  query = projected_from is_grouped rows keys width shown.scalars shown.calls;
  outputs = shown.outputs;
  sources = sources;
  findings =
      followed (followed shown.findings found) (found_in_groups is_grouped shown.has_star keys width shown.scalars);
  is_wide = is_wide || is_too_wide shown.outputs;
}
