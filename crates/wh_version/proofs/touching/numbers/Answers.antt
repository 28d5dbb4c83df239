use Rattle.std.proofs.Common.{◌∙◌, ◌∷◌, [], ◌++◌, ap, map, refl, ℕ, List}
use denote.Ref.{Bor}
use Rattle.wh_frame.specs.Partition.{Partition}
use Rattle.wh_filed.specs.Filed.{contents_at}
use Rattle.wh_version.proofs.Steps.{one_on, all_on}
use Rattle.wh_version.proofs.touching.numbers.Goals as goal

number_at : Bor Partition → List ℕ
number_at p = p.now.number ∷ []

abbrev numbers_at : List (Bor Partition) → List ℕ
numbers_at ps = map (λ p. p.number) (contents_at ps)

pub loop-partition-preserved : goal.loop-partition-preserved
unfolding number_at
loop-partition-preserved c =
    let at = c.loop-partition in
    one_on number_at numbers_at (λ p ps. refl) c.args.partitions.now at.partition-index c.partition-item.result
    at.numbers.items c.push.new.self.items (numbers_at c.args.partitions.now)
    c.loop-partition-test.true c.partition-item.is
    (c.in_ok-push.ensures.items ∙ ap (λ n. at.numbers.items ++ n ∷ []) c.number.ensures)
    at.invariant

pub returns : goal.returns
returns c =
    let at = c.loop-partition in
    all_on number_at numbers_at refl c.args.partitions.now at.partition-index
    at.numbers.items (numbers_at c.args.partitions.now) c.loop-partition-test.false at.invariant
