use Rattle.std.proofs.Common.{◌≡◌, ◌∙◌, ℕ, false, List, [], ◌∷◌, length, filter, Contains, take, refl, sym, ap, subst}
use Rattle.std.specs.Ordering.{nat_cmp}
use Rattle.std.specs.FinMap.{empty, entries, len-entries, len-empty}
use Rattle.std.proofs.lemmas.List.{take_all}
use Rattle.std.specs.List.{AllByRecursion}
use denote.Ref.{Bor}
use Rattle.wh_value.specs.Value.{Row}
use Rattle.wh_frame.specs.Partition.{Partition}
use Rattle.wh_meaning.specs.Bag.{Bag, no_rows, count}
use Rattle.wh_meaning.proofs.BagLaws.{count-no_rows}
use Rattle.wh_filed.specs.Filed.{Filed, filed_at, partitions_at}
use Rattle.wh_state.specs.State.{Rows, last_rows}
use Rattle.wh_state.specs.Stored.{table_meant}
use Rattle.wh_table.specs.Table.{table_of, filed_of}
use Rattle.wh_refresh.specs.Going.{AreGoing}
use Rattle.wh_refresh.specs.Rebased.{HoldsGoing}
use Rattle.wh_refresh.proofs.HeldLaws.{going_held, taken_more, held_at}
use Rattle.wh_refresh.proofs.going.going.Goals as goal

passed_none : (es : List (ℕ × Row)) → [] ≡ filter (λ _. false) es
passed_none [] = refl
passed_none (e ∷ es) = passed_none es

no_entries : entries (empty {K = ℕ} {X = Row} {R = nat_cmp}) ≡ []
no_entries = none (entries empty) (sym (len-entries empty) ∙ len-empty nat_cmp Row)
  where
    none : (es : List (ℕ × Row)) → length es ≡ 0 → es ≡ []
    none [] is = refl
    none (e ∷ es) is = cc

-- where no row goes
none_going : (old : Rows) (minus : Bag) → minus ≡ no_rows → HoldsGoing [] old minus
none_going old minus none = record {
  rows = empty;
  holds = record { apart = tt; rows = refl };
  passes = λ _. false;
  are = no_entries ∙ passed_none (entries old);
  stays = λ e is. ap (λ (b : Bag). count b e.1) none ∙ count-no_rows e.1;
}

pub returns-then-is_empty-clause-going : goal.returns-then-is_empty-clause-going
returns-then-is_empty-clause-going c =
    let old = last_rows (table_meant (table_of c.args.table.now)) in
    subst (λ (fs : List (Bor Filed)). HoldsGoing (partitions_at fs) old c.args.change.now.minus)
    (sym c.before.before.new-going.ensures.items) (none_going old c.args.change.now.minus (c.if-is_empty.ensures.0 refl))

pub loop-filed-preserved : goal.loop-filed-preserved
loop-filed-preserved c =
    let standing = c.deref-filed-items.result.now in
    let i = c.loop-filed.filed-index in
    let f = c.filed-item.result in
    let minus = c.args.change.now.minus in
    let filed = filed_of c.args.table.now in
    let all : AllByRecursion (Contains filed) (filed_at standing) =
    subst (λ (fs : List (Bor Filed)). AllByRecursion (Contains filed) (filed_at fs))
    (sym c.deref-filed-items.ensures.value) c.in_ok-standing.ensures.among in
    record {
      going = subst (λ (ps : List Partition). AreGoing minus ps (partitions_at c.add_going.new.going.items))
          (sym (taken_more standing i f c.loop-filed-test.true c.filed-item.is))
          (c.in_ok-add_going.ensures.added (partitions_at (take i standing)) c.loop-filed.invariant.going);
      among = c.in_ok-add_going.ensures.among filed
          (held_at (Contains filed) standing i f c.loop-filed-test.true c.filed-item.is all)
          c.loop-filed.invariant.among;
    }

pub returns-clause-going : goal.returns-clause-going
returns-clause-going c =
    let standing = c.deref-filed-items.result.now in
    let old = last_rows (table_meant (table_of c.args.table.now)) in
    let whole : take c.loop-filed.filed-index standing ≡ c.in_ok-standing.standing.items =
    take_all c.loop-filed.filed-index standing c.loop-filed-test.false ∙ c.deref-filed-items.ensures.value in
    going_held c.args.change.now.minus (partitions_at c.in_ok-standing.standing.items)
    (partitions_at c.loop-filed.going.items) old c.in_ok-standing.ensures.holds
    (subst (λ (fs : List (Bor Filed)). AreGoing c.args.change.now.minus (partitions_at fs)
    (partitions_at c.loop-filed.going.items)) whole c.loop-filed.invariant.going)
