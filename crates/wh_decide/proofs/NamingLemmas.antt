-- Names that nothing is found wrong with.
--     alone          the first of one test
--     only_width     of the tests of names and columns, the one of the columns is left
use Rattle.std.proofs.Common.{◌≡◌, Bool, [], ◌∷◌, Option, Some, None, option_map, refl, ap, ◌∙◌}
use Rattle.wh_value.specs.declared.limit.Limit.TheVariants as limits
use Rattle.wh_naming.specs.Findings.{Failing, first_failing, nothing_found}
use Rattle.wh_reply.specs.Reply.{Refusal, OverLimit}
use Rattle.wh_machine.specs.Tests.{refused_if, first_of}
use Rattle.wh_machine.specs.Names.{refusal_of, naming_refusal}

none_failing : first_failing nothing_found ≡ None
unfolding first_failing
none_failing = refl

pub alone : (found : Option Refusal) → first_of (found ∷ []) ≡ found
alone None = refl
alone (Some why) = refl

pub only_width : (is_wide : Bool) → naming_refusal nothing_found is_wide ≡ refused_if is_wide (OverLimit limits.Output)
only_width is_wide =
    ap (λ (failing : Option Failing). first_of (option_map refusal_of failing
    ∷ refused_if is_wide (OverLimit limits.Output) ∷ [])) none_failing
    ∙ alone (refused_if is_wide (OverLimit limits.Output))
