-- How bags become others.
--     turn_of_net        the net change is a turn
--     turn_of_sums       a change whose arriving rows are all there afterwards is a turn
--     net_of_turn        a turn where no row both comes and goes is the net change
--     one_net            there is one net change
--     turn-then          one turn and then another
--     turns_to           what a turn leaves
use Rattle.std.specs.Prelude.{◌≡◌, ℕ, Bool, true, false, cond, min, ◌+◌, ◌≤◌, ◌⊎◌}
use Rattle.std.proofs.Common.{arith, refl, sym, ap, ◌∙◌, inl, inr}
use Rattle.wh_value.specs.Value.{Row}
use Rattle.wh_meaning.specs.Bag as bags
use Rattle.wh_meaning.specs.Bag.{Bag, count, restricted}
use Rattle.wh_meaning.specs.BagChange.{IsNet, IsChanged}
use Rattle.wh_meaning.proofs.BagLaws.{bag_of_same, count-plus, count-restricted}
use Rattle.wh_maintenance.specs.Turn.{less, IsTurn}
use Rattle.wh_maintenance.proofs.Less.{count-less}

pub turn_of_net : (old new comes goes : Bag) → IsNet old new comes goes → IsTurn old new comes goes
turn_of_net old new comes goes net = record {
  stays = less old goes;
  was = bag_of_same _ _ (λ q. let go = net.removed q in let l = count-less old goes q in
      let s = count-plus (less old goes) goes q in omega arith);
  is = bag_of_same _ _ (λ q. let come = net.added q in let go = net.removed q in let l = count-less old goes q in
      let s = count-plus (less old goes) comes q in omega arith);
}

pub turn_of_sums : (old new comes goes : Bag) → IsChanged old comes goes new
    → ((row : Row) → count comes row ≤ count new row) → IsTurn old new comes goes
turn_of_sums old new comes goes sums there = record {
  stays = less new comes;
  was = bag_of_same _ _ (λ q. let e = sums q in let t = there q in let l = count-less new comes q in
      let s = count-plus (less new comes) goes q in omega arith);
  is = bag_of_same _ _ (λ q. let e = sums q in let t = there q in let l = count-less new comes q in
      let s = count-plus (less new comes) comes q in omega arith);
}

-- of each row as many as before and added, less those taken away
pub changed_of_turn : (old new comes goes : Bag) → IsTurn old new comes goes → IsChanged old comes goes new
changed_of_turn old new comes goes turn q =
    let o : count old q ≡ count turn.stays q + count goes q = ap (λ b. count b q) turn.was
    ∙ count-plus turn.stays goes q in
    let n : count new q ≡ count turn.stays q + count comes q = ap (λ b. count b q) turn.is
    ∙ count-plus turn.stays comes q in
    omega arith

abbrev pub AreApart : Bag → Bag → Type 0
AreApart a b = (row : Row) → (count a row ≡ 0) ⊎ (count b row ≡ 0)

pub net_of_change : (old new comes goes : Bag) → IsChanged old comes goes new → AreApart comes goes
    → IsNet old new comes goes
net_of_change old new comes goes changed apart = record {
  added = λ q. let e = changed q in elim (apart q) [ inl z ↦ omega arith | inr z ↦ omega arith ];
  removed = λ q. let e = changed q in elim (apart q) [ inl z ↦ omega arith | inr z ↦ omega arith ];
}

-- the net of a change's two sides is the net change
pub net_of_sides : (old new comes goes more fewer : Bag) → IsChanged old comes goes new → IsNet goes comes more fewer
    → IsNet old new more fewer
net_of_sides old new comes goes more fewer changed net = record {
  added = λ q. let e = changed q in let a = net.added q in omega arith;
  removed = λ q. let e = changed q in let r = net.removed q in omega arith;
}

pub one_net : (old new comes goes comes' goes' : Bag) → IsNet old new comes goes → IsNet old new comes' goes'
    → (comes ≡ comes') × (goes ≡ goes')
one_net old new comes goes comes' goes' net net' = (
  bag_of_same _ _ (λ q. net.added q ∙ sym (net'.added q)),
  bag_of_same _ _ (λ q. net.removed q
      ∙ sym (net'.removed q)),
)

pub turns_to : (old new comes goes : Bag) → IsTurn old new comes goes → new ≡ bags.plus (less old goes) comes
turns_to old new comes goes turn = bag_of_same _ _ (λ q.
    let e = changed_of_turn old new comes goes turn q in
    let o : count old q ≡ count turn.stays q + count goes q = ap (λ b. count b q) turn.was
    ∙ count-plus turn.stays goes q in
    let l = count-less old goes q in
    let s = count-plus (less old goes) comes q in omega arith)

pub changed-then : (old mid new comes goes comes' goes' : Bag) → IsChanged old comes goes mid
    → IsChanged mid comes' goes' new
    → IsChanged old (bags.plus comes comes') (bags.plus goes goes') new
changed-then old mid new comes goes comes' goes' first second q =
    let a = first q in let b = second q in let c = count-plus comes comes' q in let d = count-plus goes goes' q in
    omega arith

pub turn-back : (old new comes goes : Bag) → IsTurn old new comes goes → IsTurn new old goes comes
turn-back old new comes goes turn = record { stays = turn.stays; was = turn.is; is = turn.was }

-- what stays is what was there and doesn't go
pub rest_stays : (old new comes goes : Bag) → IsTurn old new comes goes → old ≡ bags.plus (less old goes) goes
rest_stays old new comes goes turn = bag_of_same _ _ (λ q.
    let o : count old q ≡ count turn.stays q + count goes q =
    ap (λ b. count b q) turn.was ∙ count-plus turn.stays goes q in
    let l = count-less old goes q in let s = count-plus (less old goes) goes q in omega arith)

-- ---- the rows that meet a test

both_in : (t : Bool) (n m : ℕ) → cond t (n + m) 0 ≡ cond t n 0 + cond t m 0
both_in true n m = refl
both_in false n m = refl

pub restricted-plus : (test : Row → Bool) (a b : Bag) → restricted test (bags.plus a b)
    ≡ bags.plus (restricted test a) (restricted test b)
restricted-plus test a b = bag_of_same _ _ (λ q.
    count-restricted test (bags.plus a b) q
    ∙ ap (λ n. cond (test q) n 0) (count-plus a b q)
    ∙ both_in (test q) (count a q) (count b q)
    ∙ ap (λ n. n + cond (test q) (count b q) 0) (sym (count-restricted test a q))
    ∙ ap (λ n. count (restricted test a) q + n) (sym (count-restricted test b q))
    ∙ sym (count-plus (restricted test a) (restricted test b) q))

pub restricted-turn : (test : Row → Bool) (old new comes goes : Bag) → IsTurn old new comes goes
    → IsTurn (restricted test old) (restricted test new) (restricted test comes) (restricted test goes)
restricted-turn test old new comes goes turn = record {
  stays = restricted test turn.stays;
  was = ap (restricted test) turn.was ∙ restricted-plus test turn.stays goes;
  is = ap (restricted test) turn.is ∙ restricted-plus test turn.stays comes;
}

-- ---- what a net change gives

-- the bag that it leaves
pub applied : (old new comes goes left : Bag) → IsNet old new comes goes → IsChanged old comes goes left → left ≡ new
applied old new comes goes left net changed = bag_of_same _ _ (λ q.
    let a = net.added q in let r = net.removed q in let c = changed q in omega arith)

-- what comes lies in the new bag, what goes in the old one, and no row does both
pub net_lies : (old new comes goes : Bag) → IsNet old new comes goes → (row : Row)
    → (count comes row ≤ count new row) × (count goes row ≤ count old row)
net_lies old new comes goes net row = let a = net.added row in let r = net.removed row in (omega arith, omega arith)

pub net_apart : (old new comes goes : Bag) → IsNet old new comes goes → (row : Row)
    → min (count comes row) (count goes row) ≡ 0
net_apart old new comes goes net row = let a = net.added row in let r = net.removed row in omega arith
