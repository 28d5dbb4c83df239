use Rattle.std.proofs.Common.{◌≡◌, Bool, true, false, Some, refl, sym, ap, ◌∙◌}
use Rattle.std.specs.Prelude.{not}
use Rattle.wh_scalar.specs.View.{scalar_of}
use Rattle.wh_exec.specs.declared.step.Step.TheVariants.{Keep}
use Rattle.wh_exec.proofs.PartLaws.{last_parted, passed_over}
use Rattle.wh_exec.proofs.scan.is_passed_over.Goals as goal

is_false : (b : Bool) → not b ≡ true → b ≡ false
is_false true e = absurd cc
is_false false e = refl

pub returns-in-Some-Keep : goal.returns-in-Some-Keep
returns-in-Some-Keep c out =
    let last = c.in-Some-Keep in
    passed_over c.args.steps.now _ (Keep last.condition) (scalar_of last.condition.now) c.args.filed.now.partition
    (last_parted c.args.steps.now (Keep last.condition) (sym last.ensures.value ∙ ap Some last.field-0-is))
    (λ row. refl)
    ((rw (is_false c.may_hold.result out) at c.may_hold.ensures.rejected) c.args.filed.now.partition
    c.meta.ensures.says)
