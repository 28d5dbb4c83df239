use Rattle.std.proofs.Common.{◌≡◌, ℕ, ◌≤◌, ◌+◌, ◌-◌, ◌∙◌, ◌∷◌, ◌++◌, ap, sym, subst, map, take, drop, length, get_or}
use Rattle.std.proofs.Common.{IsTrue, List, arith}
use Rattle.std.specs.List.{list_all}
use Rattle.std.proofs.lemmas.List.{length-map, length-take}
use Rattle.wh_version.specs.declared.lasting.Lasting.{Lasting}
use Rattle.wh_version.specs.declared.mark.VersionMark.{VersionMark}
use Rattle.wh_version.specs.Lasting.{filed_in, partitions_in, numbered_from, count_to, is_gone_by, stands_again}
use Rattle.wh_version.specs.Lasting.{version_by, versions_by}
use Rattle.wh_version.specs.Lists.{behind}
use Rattle.wh_version.proofs.Starts.{pop_behind}
use Rattle.wh_version.specs.History.{versions_of, nexts_of, next_in}
use Rattle.wh_version.proofs.FiledAgain.{filed_less}
use Rattle.wh_version.proofs.Going.{gone_again}
use Rattle.wh_version.proofs.Last.{next_last}
use Rattle.wh_version.proofs.Popped.{versions_left, versions_shortened, nexts_shortened, numbered_less, count_less}
use Rattle.wh_version.proofs.Popped.{gone_less, take_exactly}
use Rattle.wh_version.proofs.history.History.pop.Goals.{After-stand_again}
use Rattle.wh_version.proofs.history.History.pop.Goals as goal

module _ (c : After-stand_again) where
  abbrev kept : List Lasting
  kept = c.args.self.now.kept.items

  -- the marks behind the first, but for the last of them
  abbrev later : List VersionMark
  later = take (length c.args.self.now.later.items - 1) c.args.self.now.later.items

  -- the place of the version that is taken back
  abbrev last : ℕ
  last = c.len-place.result

  -- what is left, as it was before that version
  abbrev left : List Lasting
  left = map (stands_again last) (take c.last_mark-mark.result.partitions kept)

  count : last ≡ length c.args.self.now.later.items
  count = omega (arith, c.args.self.now.later.ok.0, c.len-place.ensures)

  marks : c.truncate.new.self.items ≡ later
  marks = c.truncate.ensures.items ∙ ap (λ n. take (n - 1) c.args.self.now.later.items) count

  fewer : length later ≡ length c.args.self.now.later.items - 1
  fewer = length-take (length c.args.self.now.later.items - 1) c.args.self.now.later.items ∙ omega arith

  whole : take c.truncate-2.new.self.len
      (c.stand_again.new.kept ++ drop (length c.stand_again.new.kept) c.truncate-2.new.self.items) ≡ left
  whole =
      take_exactly _ c.stand_again.new.kept _
      (omega (arith, c.deref_mut.ensures.len, simp length-map at (ap length c.stand_again.ensures)))
      ∙ c.stand_again.ensures
      ∙ ap (map (stands_again last)) (c.deref_mut.ensures.value ∙ c.truncate-2.ensures.items)

  last_is : c.last_mark-mark.result ≡ get_or (c.args.self.now.first ∷ c.truncate.new.self.items)
      (length c.truncate.new.self.items) c.args.self.now.first
  last_is =
      c.last_mark-mark.ensures
      ∙ ap (λ ms. get_or (c.args.self.now.first ∷ ms) (length ms) c.args.self.now.first) c.deref.ensures.value

  counts : IsTrue (count_to 0 (c.args.self.now.first ∷ later) c.last_mark-mark.result.partitions)
      × (c.last_mark-mark.result.partitions ≤ length kept)
  counts =
      let h = c.args.self.now in
      let mark : c.last_mark-mark.result ≡ get_or (h.first ∷ later) (length later) h.first =
      last_is ∙ ap (λ ms. get_or (h.first ∷ ms) (length ms) h.first) marks in
      let P : VersionMark → Type 0 =
      λ m. IsTrue (count_to 0 (h.first ∷ later) m.partitions) × (m.partitions ≤ length kept) in
      subst P (sym mark) (count_less 0 (length h.later.items - 1) (length kept) h.first h.later.items h.marks)

pub invariant_of-self : goal.invariant_of-self
invariant_of-self c =
    let at = (goal.at.invariant_of-self c).After-stand_again in
    let h = c.args.self.now in
    let partitions = c.last_mark-mark.result.partitions in
    let few = (counts at).1 in
    let places : length c.truncate.new.self.items ≡ last at - 1 =
    omega (arith, ap length (marks at), fewer at, count at) in
    let total : length (left at) ≡ partitions = length-map (take partitions (kept at)) (stands_again (last at))
    ∙ length-take partitions (kept at) ∙ omega arith in
    record {
      nothing = h.nothing;
      front = h.front;
      numbers = ap (λ ks. numbered_from 1 (partitions_in ks)) (whole at)
          ∙ numbered_less (last at) partitions 1 (kept at) h.numbers;
      marks = (λ i. count_to 0 (h.first ∷ marks at i) ((ap length (whole at) ∙ total) i)) ∙ (counts at).0;
      gone = (λ i. list_all (is_gone_by (places i)) (whole at i))
          ∙ gone_less (last at) (kept at) partitions (omega arith)
          (subst (λ n. IsTrue (list_all (is_gone_by n) (kept at))) (sym (count at)) h.gone);
      went = ap (λ ks. list_all (is_gone_by h.last_going) ks) (whole at)
          ∙ gone_again h.last_going (last at) partitions (kept at) h.went;
    }

pub returns-clause-versions : goal.returns-clause-versions
unfolding versions_of
returns-clause-versions c =
    let at = (goal.at.returns-clause-versions c).After-stand_again in
    let h = c.args.self.now in
    let sized = h.later.ok.0 in
    ap (behind h.starts_empty)
    ((λ i. versions_by (whole at i) 0 (h.first ∷ marks at i))
    ∙ versions_left (last at) c.last_mark-mark.result.partitions (kept at) 0 0 (h.first ∷ later at)
    (omega (arith, count at)) (omega (arith, count at, fewer at)) (counts at).0
    ∙ sym (versions_shortened (kept at) h.first h.later.items))
    ∙ pop_behind h.starts_empty (version_by (kept at) 0 h.first) (versions_by (kept at) 1 h.later.items)

pub returns-clause-nexts : goal.returns-clause-nexts
unfolding nexts_of
returns-clause-nexts c =
    let h = c.args.self.now in
    ap (λ ms. map (λ mark. mark.partitions + 1) (h.first ∷ ms))
    (marks (goal.at.returns-clause-nexts c).After-stand_again)
    ∙ sym (nexts_shortened (λ mark. mark.partitions + 1) h.first h.later.items)

pub returns-clause-filed : goal.returns-clause-filed
unfolding nexts_of
returns-clause-filed c =
    let at = (goal.at.returns-clause-filed c).After-stand_again in
    let h = c.args.self.now in
    let count : c.last_mark-mark.result.partitions
    ≡ next_in (map (λ mark. mark.partitions + 1) (h.first ∷ c.truncate.new.self.items)) - 1 =
    omega (arith, next_last h.first c.truncate.new.self.items, ap (λ (m : VersionMark). m.partitions) (last_is at)) in
    ap filed_in (whole at)
    ∙ filed_less (last at) c.last_mark-mark.result.partitions (kept at)
    ∙ ap (λ n. take n (filed_in (kept at))) count
