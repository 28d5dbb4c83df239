use Rattle.std.proofs.Common.{◌≡◌, ◌≤◌, ◌<◌, ℕ, false, get_or}
use denote.Ref.{Bor}
use Rattle.wh_filed.specs.Filed.{Filed}
use Rattle.wh_delta.specs.Moved.{same_number}
use Rattle.wh_delta.proofs.moved.place_from.Given as goal

abbrev pub invariant-loop-place : goal.invariant-loop-place
invariant-loop-place l = (k : ℕ) (d : Bor Filed) → l.from ≤ k → k < l.place
    → same_number l.one (get_or l.others k d).now ≡ false
