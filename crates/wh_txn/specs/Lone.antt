-- A transaction by itself.
--     lone     it begins at a stamp, and stages one effect on a table
use Rattle.std.specs.Prelude.{ℕ, List}
use Rattle.wh_effect.specs.Effect.{Effect}
use Rattle.wh_state.specs.State.{State}
use Rattle.wh_machine.specs.Transaction.{Transaction, begun, staged_in_state}

abbrev pub lone : State → ℕ → ℕ → List ℕ → Effect → Transaction
lone s stamp id streams e = staged_in_state s (begun stamp) id streams e
