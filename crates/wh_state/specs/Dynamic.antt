-- Dynamic tables: what they have beside their rows.
--     Source                        an object that a query names, by its id
--     DynamicTexts, DynamicQuery    its query: the text in a file, the text with its tree in the machine
--     IsQuerySpelled                the text spells the tree
--     ids_read                      the ids of what it reads
--     DynamicState, Dynamic         what ALTER DYNAMIC TABLE and refreshes move of it; all that it has
--     Kept                          its groups, where it is kept
--     GroupsChange                  what a version does to them
--     with_dynamic_state, with_groups     one in another state, and one behind a change of its groups
use Rattle.std.specs.Prelude.{ℕ, Bool, false, List, [], ◌∷◌, map, bytes_eq, if◌then◌else◌, Option, None, Some, option_map}
use Rattle.wh_maintenance.specs.Standing.{Groups}
use Rattle.wh_maintenance.specs.Entries.{GroupEntry, set_all}
use Rattle.wh_ast.specs.declared.query.Query.{Query}
use Rattle.wh_ast.specs.declared.statement.Statement.TheVariants as st
use Rattle.wh_grammar.specs.Spelled.{Spells}
use Rattle.wh_ddl_naming.specs.Names.{query_names}

-- ---- the query

pub record Source : Type 0 where
  pub name : List ℕ
  pub id : ℕ

-- an object for each name in FROM, in the order of the text
pub record DynamicTexts : Type 0 where
  pub text : List ℕ
  pub sources : List Source

pub record DynamicQuery : Type 0 where
  pub tree : Query
  pub text : List ℕ
  pub sources : List Source

abbrev pub query_texts_of : DynamicQuery → DynamicTexts
query_texts_of q = record { text = q.text; sources = q.sources }

abbrev pub IsQuerySpelled : DynamicQuery → Type 0
IsQuerySpelled q = Spells q.text (st.Select q.tree [])

-- 0 for a name that is kept with none
abbrev pub id_named : List Source → List ℕ → ℕ
id_named [] name = 0
id_named (s ∷ ss) name = if bytes_eq s.name name then s.id else id_named ss name

-- for each name in FROM, in the order of the text, as its sources are numbered
unfoldable pub ids_read : DynamicQuery → List ℕ
ids_read q = map (id_named q.sources) (query_names q.tree)

-- ---- the table

-- the lag is in seconds, 0 for DOWNSTREAM; the moment that its rows stand for, and the target of its last scheduled
-- refresh that failed, are 0 where there is none
pub record DynamicState : Type 0 where
  pub lag : ℕ
  pub is_suspended : Bool
  pub failures : ℕ
  pub tried : ℕ
  pub moment : ℕ

-- so many failed refreshes in a row suspend it, and are counted
abbrev pub most_failed_refreshes : ℕ
most_failed_refreshes = 5

abbrev pub first_dynamic_state : ℕ → DynamicState
first_dynamic_state lag = record { lag = lag; is_suspended = false; failures = 0; tried = 0; moment = 0 }

-- ---- its groups

-- of a query that is one Group over a linear one: how many keys and calls that has, and its groups
pub record Kept : Type 0 where
  pub keys : ℕ
  pub calls : ℕ
  pub groups : Groups

-- with so many keys and calls
pub record GroupsChange : Type 0 where
  pub keys : ℕ
  pub calls : ℕ
  pub entries : List GroupEntry

abbrev pub behind_entries : List GroupEntry → Kept → Kept
behind_entries entries k = record k { groups = set_all entries k.groups }

-- ---- all that it has

pub record Dynamic : Type 0 where
  pub query : DynamicQuery
  pub is_incremental : Bool
  pub state : DynamicState
  pub kept : Option Kept

abbrev pub new_dynamic : ℕ → Bool → Option Kept → DynamicQuery → Dynamic
new_dynamic lag is_incremental kept query =
    record { query = query; is_incremental = is_incremental; state = first_dynamic_state lag; kept = kept }

abbrev pub with_dynamic_state : DynamicState → Dynamic → Dynamic
with_dynamic_state state d = record d { state = state }

abbrev pub behind_change : GroupsChange → Dynamic → Dynamic
behind_change c d = record d { kept = option_map (behind_entries c.entries) d.kept }

abbrev pub with_groups : Option GroupsChange → Dynamic → Dynamic
with_groups None d = d
with_groups (Some c) d = behind_change c d
