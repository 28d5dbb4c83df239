-- A core of its parts is the core that is meant.
use Rattle.std.proofs.Common.{◌≡◌, ◌∙◌, ap, ℕ, suc, Bool, true, false, List, length, Option, Some, None, refl}
use Rattle.wh_ast.specs.declared.expr.Expr.{Expr}
use Rattle.wh_meaning.specs.Scalar.{Scalar}
use Rattle.wh_meaning.specs.Query.{Query}
use Rattle.wh_naming.specs.Findings.{Name, Findings, followed}
use Rattle.wh_naming.specs.Scope.{Entry, width}
use Rattle.wh_naming.specs.Typing.{Typed, typed}
use Rattle.wh_naming.specs.Select.{Joined, Shown, filtered_by, filter_findings, key_scalars, key_findings, is_grouped}
use Rattle.wh_naming.specs.Select.{core_of, with_item, output_name, item_context}
use Rattle.wh_core_bind.specs.Parts.{filter_of, filtered, finished, found_in_groups}
use Rattle.wh_core_bind.proofs.FindingLaws.{followed_assoc}

filtered_same : (j : Joined) (filter : Option Expr)
    → filtered j.query (filter_of j.entries filter) ≡ filtered_by j filter
filtered_same j None = refl
filtered_same j (Some e) = refl

-- what is found in items, then in FROM, WHERE and GROUP BY, and then over groups
found_in_order : (a b c d e : Findings)
    → followed (followed a (followed (followed b c) d)) e ≡ followed a (followed b (followed c (followed d e)))
found_in_order a b c d e = followed_assoc a (followed (followed b c) d) e
    ∙ ap (followed a) (followed_assoc (followed b c) d e ∙ followed_assoc b c (followed d e))

core_at : (b : Bool) (j : Joined) (filter : Option Expr) (group : List Expr) (shown : Shown)
    → is_grouped group shown.calls ≡ b
    → finished b (filtered j.query (filter_of j.entries filter)) j.sources j.is_wide
    (followed (followed j.findings (filter_findings j.entries filter)) (key_findings j.entries group))
    (key_scalars j.entries group) (width j.entries) shown
    ≡ core_of j filter group shown
core_at true j filter group shown is = rw (
  filtered_same j filter,
  found_in_order shown.findings j.findings (filter_findings j.entries filter) (key_findings j.entries group)
      (found_in_groups true shown.has_star (key_scalars j.entries group) (width j.entries) shown.scalars),
  is,
) refl
core_at false j filter group shown is = rw (
  filtered_same j filter,
  found_in_order shown.findings j.findings (filter_findings j.entries filter) (key_findings j.entries group)
      (found_in_groups false shown.has_star (key_scalars j.entries group) (width j.entries) shown.scalars),
  is,
) refl

pub core_from : (j : Joined) (filter : Option Expr) (group : List Expr) (shown : Shown)
    (groups : Bool) (rows : Query) (sources : List ℕ) (wide : Bool) (found : Findings) (keys : List Scalar)
    (in_keys : Findings) (w : ℕ)
    → groups ≡ is_grouped group shown.calls → rows ≡ filtered j.query (filter_of j.entries filter)
    → sources ≡ j.sources → wide ≡ j.is_wide
    → found ≡ followed j.findings (filter_findings j.entries filter) → keys ≡ key_scalars j.entries group
    → in_keys ≡ key_findings j.entries group → w ≡ width j.entries
    → finished groups rows sources wide (followed found in_keys) keys w shown ≡ core_of j filter group shown
core_from j filter group shown groups rows sources wide found keys in_keys w a b c d e f g h =
    rw (a, b, c, d, e, f, g, h) (core_at (is_grouped group shown.calls) j filter group shown refl)

-- an expression under its name, by counts that are the lengths so far
pub item_same : (s : Shown) (alias : Option Name) (x : Expr) (entries : List Entry)
    (name : Name) (t : Typed) (position calls : ℕ)
    → name ≡ output_name alias x position → t ≡ typed x (item_context entries) calls → position ≡ suc (length s.outputs)
    → calls ≡ length s.calls
    → with_item s name t
    ≡ with_item s (output_name alias x (suc (length s.outputs))) (typed x (item_context entries) (length s.calls))
item_same s alias x entries name t position calls a b c d = rw (a, b, c, d) refl
