use Rattle.std.proofs.Common.{◌∙◌, ap, sym, ◌+◌, ◌-◌, Bool, Some, bytes_eq, cond, option_map, arith, take}
use Rattle.wh_catalog.specs.Names.{last_place, names_of}
use Rattle.wh_catalog.proofs.Names.{without_last}
use Rattle.wh_catalog.proofs.naming.last_id.Goals as goal

pub returns-then-eq : goal.returns-then-eq
returns-then-eq c =
    let at = c.loop-left in
    let name = c.args.name.now in
    let rest = last_place name (names_of (take (at.left - 1) c.args.objects.now)) in
    sym (ap (option_map (λ place. place + 1)) (
    sym at.invariant.seen
    ∙ without_last c.args.objects.now name at.left c.index-objects-left.result
    (omega arith) at.invariant.bounded c.index-objects-left.is
    ∙ ap (λ (b : Bool). cond b (Some (at.left - 1)) rest)
    (ap (λ n. bytes_eq n name) (sym c.as_bytes.ensures.value) ∙ sym c.eq.ensures ∙ c.if-eq.true)
    ))

pub loop-left-preserved : goal.loop-left-preserved
loop-left-preserved c =
    let at = c.loop-left in
    let name = c.args.name.now in
    let rest = last_place name (names_of (take (at.left - 1) c.args.objects.now)) in
    record {
      bounded = omega arith;
      seen = sym (
          sym at.invariant.seen
          ∙ without_last c.args.objects.now name at.left c.index-objects-left.result
          (omega arith) at.invariant.bounded c.index-objects-left.is
          ∙ ap (λ (b : Bool). cond b (Some (at.left - 1)) rest)
          (ap (λ n. bytes_eq n name) (sym c.as_bytes.ensures.value) ∙ sym c.eq.ensures ∙ c.if-eq.false)
          );
    }
