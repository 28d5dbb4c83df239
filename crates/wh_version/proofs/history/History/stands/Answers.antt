use Rattle.std.proofs.Common.{◌≡◌, ◌+◌, ◌-◌, ◌∙◌, ap, sym, false, filter, inl, inr, arith}
use Rattle.std.specs.Prelude.{nat_eq}
use Rattle.std.specs.List.{list_any}
use Rattle.wh_version.specs.Lasting.{partitions_in, is_standing}
use Rattle.wh_version.proofs.Last.{standing_now}
use Rattle.wh_version.proofs.Found.{none_there, one_there}
use Rattle.wh_version.proofs.history.History.stands.Goals as goal
use Rattle.wh_version.proofs.history.History.stands.Goals.{then-number-eq0-via-then-number-eq0}
use Rattle.wh_version.proofs.history.History.stands.Goals.{then-number-eq0-via-else-number-eq0+then-len-number}

pub returns-then-number-eq0 : goal.returns-then-number-eq0
returns-then-number-eq0 c =
    let h = c.args.self.now in
    let number = c.args.number in
    let sized = h.kept.ok.0 in
    let standing = ap (list_any (λ p. nat_eq number p.number)) (standing_now h) in
    let none : list_any (λ p. nat_eq number p.number) (partitions_in (filter is_standing h.kept.items)) ≡ false =
    elim c.then-number-eq0.branch [
      | then-number-eq0-via-then-number-eq0 w ↦
          none_there is_standing number 1 h.kept.items h.numbers (inl (omega arith))
      | then-number-eq0-via-else-number-eq0+then-len-number w ↦
          none_there is_standing number 1 h.kept.items h.numbers (inr (omega (arith, w.len.ensures)))
    ] in
    sym (standing ∙ none)

pub returns : goal.returns
returns c =
    let h = c.args.self.now in
    let number = c.args.number in
    let sized = h.kept.ok.0 in
    let standing = ap (list_any (λ p. nat_eq number p.number)) (standing_now h) in
    let k = c.index-one.result.now in
    let there = one_there is_standing 1 (number - 1) h.kept.items k h.numbers (omega (arith, c.len.ensures))
    c.index-one.ensures in
    let same : 1 + (number - 1) ≡ number = omega arith in
    sym (standing ∙ ap (λ n. list_any (λ p. nat_eq n p.number) (partitions_in (filter is_standing h.kept.items)))
    (sym same) ∙ there ∙ sym c.stands.ensures)
