use Rattle.std.proofs.Common.{◌≡◌, ◌++◌, subst, ap, ◌∙◌, rules}
use Rattle.std.specs.Int.{w64, cast_unsigned}
use Rattle.std.specs.Int.RustNames.{FitsSigned}
use Rattle.std.proofs.lemmas.Int.{to_z-of_z}
use Rattle.wh_meaning.specs.Query.{Total}
use Rattle.wh_state.specs.Spelling.{total_bytes}
use Rattle.wh_record.proofs.WritingLaws.{total_written}
use Rattle.wh_record.proofs.groups_encoding.write_total.Goals as goal

pub returns-clause-written : goal.returns-clause-written
returns-clause-written c =
    let total : Total = record { sum = c.total.inside.sum; values = c.total.inside.values } in
    let fits : FitsSigned w64 total.sum = search rules in
    let bits : c.cast_unsigned.result ≡ cast_unsigned w64 total.sum =
    c.cast_unsigned.ensures ∙ ap (cast_unsigned w64) (to_z-of_z w64 total.sum fits) in
    subst (λ (t : Total). c.write_u64-2.new.out ≡ c.args.out.now ++ total_bytes t) c.total.view_is
    (total_written total c.args.out.now c.write_u64.new.out c.write_u64-2.new.out
    (rw (← bits) c.in_ok-write_u64.ensures.ok) c.in_ok-write_u64-2.ensures.ok)
