-- A query from the left, one part after the other.
--     entered, joined_on     one FROM entry more, and all of them
--     after_core             a core behind those so far
--     gathered               all cores behind those so far
--     with_other             a column of a UNION ALL
--     more_entries           one entry behind those so far
use Rattle.std.specs.Prelude.{ℕ, zero, suc, nat_lt, if◌then◌else◌, ◌+◌, List, [], ◌∷◌, ◌++◌, length, Option, Some, None}
use Rattle.wh_ast.specs.declared.expr.Expr.{Expr}
use Rattle.wh_ast.specs.declared.query.Item.{Item}
use Rattle.wh_value.specs.Column.{Column}
use Rattle.wh_naming.specs.Findings.{Name, either, nothing_found}
use Rattle.wh_naming.specs.Scope.{Named, Entry}
use Rattle.wh_naming.specs.Select as naming
use Rattle.wh_naming.specs.Select.{Output, BoundQuery, BoundSource, Joined, JoinPart, SourcePart, QueryReading}

unfoldable pub started : SourcePart → List JoinPart → BoundSource → Joined
started part joins s = naming.first_entry part joins s

unfoldable pub entered : Joined → JoinPart → List JoinPart → BoundSource → Joined
entered left j joins s = naming.with_entry left j joins s

unfoldable pub joined_on : List Named → ℕ → Joined → List JoinPart → Joined
joined_on names next left joins = naming.with_joins names next left joins

unfoldable pub core_over : List Item → Joined → Option Expr → List Expr → BoundQuery
core_over items joined filter group = naming.bound_core items joined filter group

unfoldable pub number_behind : ℕ → Option BoundQuery → ℕ
number_behind next None = next
number_behind next (Some q) = next + length q.sources

unfoldable pub after_core : Option BoundQuery → BoundQuery → BoundQuery
after_core None core = core
after_core (Some q) core = naming.united q core

unfoldable pub gathered : List Named → ℕ → Option BoundQuery → List QueryReading → BoundQuery
gathered names next None cores = naming.all_cores names next cores
gathered names next (Some q) cores = naming.more_cores names next q cores

unfoldable pub as_source : BoundQuery → BoundSource
as_source q = naming.query_source q

-- a column of the first query of a UNION ALL, and the one of the second at its place
abbrev pub with_other : Output → Option Output → Output
with_other o None = o
with_other o (Some p) = record { name = o.name; type_of = either o.type_of p.type_of }

abbrev pub more_entries : List Entry → Name → List Column → List Entry
more_entries entries name columns = entries ++ (record { name = name; columns = columns }) ∷ []

abbrev pub nothing_sorted : naming.BoundKeys
nothing_sorted = record { keys = []; findings = nothing_found }

-- a position among that many columns
abbrev pub position_below : ℕ → ℕ → Option ℕ
position_below zero count = None
position_below (suc place) count = if nat_lt place count then Some place else None
