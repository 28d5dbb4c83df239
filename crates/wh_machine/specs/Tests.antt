-- Tests in their order.
--     refused_if, refused_past     a test that fails, and a count that is beyond a limit
--     first_of                     the first refusal
use Rattle.std.specs.Prelude.{ℕ, Bool, true, false, List, [], ◌∷◌, Option, Some, None, nat_lt}
use Rattle.wh_value.specs.Limit.{bound}
use Rattle.wh_value.specs.declared.limit.Limit.{Limit}
use Rattle.wh_reply.specs.Reply.{Refusal, OverLimit}

abbrev pub refused_if : Bool → Refusal → Option Refusal
refused_if true why = Some why
refused_if false why = None

abbrev pub refused_past : Limit → ℕ → Option Refusal
refused_past limit count = refused_if (nat_lt (bound limit) count) (OverLimit limit)

abbrev pub first_of : List (Option Refusal) → Option Refusal
first_of [] = None
first_of (Some why ∷ others) = Some why
first_of (None ∷ others) = first_of others
