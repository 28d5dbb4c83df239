use Rattle.std.proofs.Common.{◌≡◌, ℕ, ◌+◌, ◌<◌, ◌∙◌, ◌∷◌, [], ◌++◌, ap, sym, subst, List, length, map, IsTrue}
use Rattle.std.proofs.Common.{arith, length-append}
use Rattle.std.specs.List.{list_all}
use Rattle.std.proofs.lemmas.List.{length-map, map_push}
use Rattle.wh_state.specs.Commit.{NumberedFrom}
use Rattle.wh_state.specs.Edits.{without}
use Rattle.wh_state.specs.Stored.{StoredVersion}
use Rattle.wh_version.specs.declared.lasting.Lasting.{Lasting}
use Rattle.wh_version.specs.declared.mark.VersionMark.{VersionMark}
use Rattle.wh_filed.specs.Filed.{partitions_filed}
use Rattle.wh_version.specs.Lasting.{filed_in, partitions_in, numbered_from, count_to, is_gone_by, parted, fresh}
use Rattle.wh_version.specs.Lasting.{going_with, standing_at, version_by, versions_by}
use Rattle.wh_version.specs.Lists.{behind}
use Rattle.wh_version.specs.History.{versions_of, nexts_of, marks_of, standing_in, next_in}
use Rattle.wh_version.proofs.Starts.{push_behind}
use Rattle.wh_version.proofs.Last.{next_last, counts_all, standing_now, standing_last}
use Rattle.wh_version.proofs.Going.{still_gone_with}
use Rattle.wh_version.proofs.Parted.{all_later, parted_gone, length-parted}
use Rattle.wh_version.proofs.Pushed.{versions_pushed, more_filed, more_partitions, still_numbered}
use Rattle.wh_version.proofs.Pushed.{still_count, still_gone}
use Rattle.wh_version.proofs.history.History.push.Goals.{After-push_reserved}
use Rattle.wh_version.proofs.history.History.push.Goals as goal

module _ (c : After-push_reserved) where
  abbrev kept : List Lasting
  kept = c.args.self.now.kept.items

  -- the place of the new version
  abbrev last : ℕ
  last = c.len-place.result + 1

  -- what there was, as the new version leaves it, and what is added
  abbrev all : List Lasting
  all = parted last c.args.removed.now kept ++ map fresh c.args.added.items

  abbrev mark : VersionMark
  mark =
      record { stamp = c.args.stamp; data_timestamp = c.args.data_timestamp; partitions = c.len-partitions.result }

  count : length (marks_of c.args.self.now) ≡ last
  count = omega (arith, c.args.self.now.later.ok.0, c.len-place.ensures, c.reserve-2.ensures.len)

  whole : c.append.new.kept.items ≡ all
  whole =
      c.append.ensures ∙ ap (λ ks. ks ++ map fresh c.args.added.items)
      (c.part.ensures.parted ∙ ap (parted last c.args.removed.now) c.reserve.ensures.items)

  marks : c.args.self.now.first ∷ c.push_reserved.new.self.items ≡ marks_of c.args.self.now ++ mark ∷ []
  marks =
      ap (λ l. c.args.self.now.first ∷ l)
      (c.push_reserved.ensures.items ∙ ap (λ l. l ++ mark ∷ []) c.reserve-2.ensures.items)

  total : mark.partitions ≡ length all
  total = omega (arith, c.append.new.kept.ok.0, c.len-partitions.ensures) ∙ ap length whole

  size : length all ≡ length kept + length c.args.added.items
  size =
      length-append (parted last c.args.removed.now kept) (map fresh c.args.added.items)
      ∙ (λ i. length-parted last c.args.removed.now kept i + length-map c.args.added.items fresh i)

  next : next_in (map (λ mark. mark.partitions + 1) (marks_of c.args.self.now)) ≡ length kept + 1
  next =
      let h = c.args.self.now in
      next_last h.first h.later.items ∙ ap (λ n. n + 1) (counts_all 0 h.first h.later.items (length kept) h.marks)

  gone : IsTrue (list_all (is_gone_by last) kept)
  gone =
      subst (λ n. IsTrue (list_all (is_gone_by n) kept)) (omega (arith, count))
      (all_later (length c.args.self.now.later.items) kept c.args.self.now.gone)

pub invariant_of-self-2 : goal.invariant_of-self-2
unfolding nexts_of
invariant_of-self-2 c =
    let at = (goal.at.invariant_of-self-2 c).After-push_reserved in
    let h = c.args.self.now in
    let removed = c.args.removed.now in
    let added = c.args.added.items in
    let N : ℕ → Type 0 = λ n. NumberedFrom n (partitions_filed added) in
    let sized_after = c.append.new.kept.ok.0 in
    let places : length c.push_reserved.new.self.items ≡ last at =
    omega (arith, count at, simp length-append at (ap length (marks at))) in
    record {
      nothing = h.nothing;
      front = h.front;
      numbers = ap (λ ks. numbered_from 1 (partitions_in ks)) (whole at)
          ∙ still_numbered (last at) removed (kept at) added h.numbers (subst N (next at) c.requires);
      marks = (λ i. count_to 0 (marks at i) (length c.append.new.kept.items))
          ∙ ap (count_to 0 (marks_of h ++ mark at ∷ [])) (omega (arith, c.len-partitions.ensures))
          ∙ still_count 0 (marks_of h) (mark at) (length (kept at)) h.marks (omega (arith, total at, size at));
      gone = (λ i. list_all (is_gone_by (places i)) (whole at i))
          ∙ still_gone (last at) (parted (last at) removed (kept at)) added
          (parted_gone (last at) removed (kept at) (gone at));
      went = (λ i. list_all (is_gone_by (c.going_with-self.ensures i)) (whole at i))
          ∙ still_gone (going_with h.last_going (last at) removed) (parted (last at) removed (kept at)) added
          (still_gone_with h.last_going (last at) removed (kept at) h.went (gone at));
    }

pub returns-clause-versions : goal.returns-clause-versions
unfolding versions_of
returns-clause-versions c =
    let at = (goal.at.returns-clause-versions c).After-push_reserved in
    let h = c.args.self.now in
    let removed = c.args.removed.now in
    let added = c.args.added.items in
    let few : last at < 18446744073709551615 = omega (arith, count at) in
    let first = version_by (kept at) 0 h.first in
    let rest = versions_by (kept at) 1 h.later.items in
    let standing : standing_at (last at) (kept at) ≡ standing_in (behind h.starts_empty (first ∷ rest)) =
    ap partitions_in (sym (standing_last (last at) (kept at) few (gone at)))
    ∙ sym (standing_now h) in
    let now : StoredVersion = record {
      stamp = c.args.stamp;
      data_timestamp = c.args.data_timestamp;
      content = without removed (standing_at (last at) (kept at)) ++ partitions_filed added;
    } in
    ap (behind h.starts_empty)
    ((λ i. versions_by (whole at i) 0 (marks at i))
    ∙ versions_pushed (last at) removed (kept at) added (marks_of h) (mark at) few (count at) h.marks (total at))
    ∙ push_behind h.starts_empty first rest now
    ∙ (λ i. behind h.starts_empty (first ∷ rest) ++ (record {
      stamp = c.args.stamp;
      data_timestamp = c.args.data_timestamp;
      content = without removed (standing i) ++ partitions_filed added;
    }) ∷ [])

pub returns-clause-nexts : goal.returns-clause-nexts
unfolding nexts_of
returns-clause-nexts c =
    let at = (goal.at.returns-clause-nexts c).After-push_reserved in
    let old = marks_of c.args.self.now in
    ap (map (λ mark. mark.partitions + 1)) (marks at)
    ∙ map_push (λ mark. mark.partitions + 1) old (mark at)
    ∙ ap (λ n. map (λ m. m.partitions + 1) old ++ n ∷ []) (omega (arith, total at, size at, next at))

pub returns-clause-partitions : goal.returns-clause-partitions
returns-clause-partitions c =
    let at = (goal.at.returns-clause-partitions c).After-push_reserved in
    ap partitions_in (whole at) ∙ more_partitions (last at) c.args.removed.now (kept at) c.args.added.items

pub returns-clause-filed : goal.returns-clause-filed
returns-clause-filed c =
    let at = (goal.at.returns-clause-filed c).After-push_reserved in
    ap filed_in (whole at) ∙ more_filed (last at) c.args.removed.now (kept at) c.args.added.items
