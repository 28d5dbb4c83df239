-- Tests of versions by their data timestamps, over their marks.
use Rattle.std.proofs.Common.{◌≡◌, ℕ, ◌+◌, Bool, List, [], ◌∷◌, refl, ap}
use Rattle.std.specs.Prelude.{◌||◌}
use Rattle.std.specs.List.{list_any}
use Rattle.wh_version.specs.declared.lasting.Lasting.{Lasting}
use Rattle.wh_version.specs.declared.mark.VersionMark.{VersionMark}
use Rattle.wh_version.specs.Lasting.{versions_by}

pub versions_any : (test : ℕ → Bool) (kept : List Lasting) (place : ℕ) (marks : List VersionMark)
    → list_any (λ v. test v.data_timestamp) (versions_by kept place marks)
    ≡ list_any (λ mark. test mark.data_timestamp) marks
versions_any test kept place [] = refl
versions_any test kept place (mark ∷ marks) =
    ap (λ (rest : Bool). test mark.data_timestamp || rest) (versions_any test kept (place + 1) marks)
