-- A task's predecessors, one after the other.
--     next_id, next_findings     the id of one name more, and what is found wrong with it
use Rattle.std.proofs.Common.{◌≡◌, ℕ, ◌+◌, ◌<◌, List, [], ◌∷◌, ◌++◌, map, length, take, drop}
use Rattle.std.proofs.Common.{get_or, refl, ap, sym, ◌∙◌}
use Rattle.std.proofs.lemmas.List.{map_more, drop_more}
use Rattle.wh_naming.specs.Findings.{Name, Findings, followed}
use Rattle.wh_core_bind.proofs.FindingLaws.{followed_assoc}
use Rattle.wh_ddl_naming.specs.Objects.{Names}
use Rattle.wh_ddl_naming.specs.Tasks.{predecessor, predecessor_findings}

pub next_id : (names : Names) (root : ℕ) (after : List Name) (i : ℕ) (name : Name) → i < length after
    → name ≡ get_or after i name
    → map (λ n. (predecessor names root n).value) (take (i + 1) after)
    ≡ map (λ n. (predecessor names root n).value) (take i after) ++ (predecessor names root name).value ∷ []
next_id names root after i name l is =
    let more = map_more (λ (n : Name). (predecessor names root n).value) after i name l in
    rw (more, ← is) refl

pub next_findings : (names : Names) (root : ℕ) (after : List Name) (i : ℕ) (name : Name) (f found : Findings)
    → i < length after → name ≡ get_or after i name → found ≡ (predecessor names root name).findings
    → followed (followed f found) (predecessor_findings names root (drop (i + 1) after))
    ≡ followed f (predecessor_findings names root (drop i after))
next_findings names root after i name f found l is e =
    followed_assoc f found (predecessor_findings names root (drop (i + 1) after))
    ∙ ap (λ (x : Findings). followed f (followed x (predecessor_findings names root (drop (i + 1) after)))) e
    ∙ ap (λ (xs : List Name). followed f (predecessor_findings names root xs))
    (sym (drop_more after i name l ∙ ap (λ y. y ∷ drop (i + 1) after) (sym is)))
