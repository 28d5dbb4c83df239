use Rattle.std.proofs.Common.{◌≡◌, ◌+◌, ◌-◌, ◌∙◌, ap, sym, map, set, inl, inr, arith}
use Rattle.wh_version.specs.Lasting.{part_one}
use Rattle.wh_version.proofs.Parted.{there, not_there}
use Rattle.wh_version.proofs.pushing.part_one.Goals as goal
use Rattle.wh_version.proofs.pushing.part_one.Goals.{then-number-eq0-via-then-number-eq0}
use Rattle.wh_version.proofs.pushing.part_one.Goals.{then-number-eq0-via-else-number-eq0+then-len-number}

pub returns-then-number-eq0-clause-parted : goal.returns-then-number-eq0-clause-parted
returns-then-number-eq0-clause-parted c =
    let kept = c.args.kept.now in
    let sized = kept.ok.0 in
    elim c.then-number-eq0.branch [
      | then-number-eq0-via-then-number-eq0 w ↦
          sym (not_there c.args.place 1 c.args.number kept.items c.requires (inl (omega arith)))
      | then-number-eq0-via-else-number-eq0+then-len-number w ↦
          sym (not_there c.args.place 1 c.args.number kept.items c.requires (inr (omega (arith, w.len.ensures))))
    ]

pub returns-clause-parted : goal.returns-clause-parted
returns-clause-parted c =
    let kept = c.args.kept.now in
    let sized = kept.ok.0 in
    let number : 1 + (c.args.number - 1) ≡ c.args.number = omega arith in
    let k = c.index_mut-one.result.now in
    ap (λ u. set kept.items (c.args.number - 1) (record { filed = k.filed; until = u })) c.min-one.ensures
    ∙ there c.args.place 1 (c.args.number - 1) kept.items k c.requires
    (omega (arith, c.len.ensures)) c.index_mut-one.ensures.value
    ∙ ap (λ n. map (part_one c.args.place n) kept.items) number
