use Rattle.std.proofs.Common.{◌∙◌, sym, ap, map, List}
use Rattle.std.proofs.lemmas.List.{map-id}
use Rattle.wh_frame.specs.Partition.{Partition}
use Rattle.wh_state.specs.Edits.{without}
use Rattle.wh_version.specs.Edits.{edits_in}
use Rattle.wh_version.specs.History.{versions_of, standing_in}
use Rattle.wh_table.specs.Apart.{all_apart}
use Rattle.wh_table.specs.Table.{kept_table, filed_of}
use Rattle.wh_table.proofs.Apart.{Decides-all_apart}
use Rattle.wh_table.proofs.Asked.{still_among, at_hand}
use Rattle.wh_table.proofs.table.StoredTable.edited.Goals as goal

pub returns-clause-edited : goal.returns-clause-edited
unfolding kept_table
returns-clause-edited g c = λ shown.
    let t = c.args.self.now in
    let removed = c.in_ok-rewritten.rewritten.removed.items in
    let added = c.in_ok-rewritten.rewritten.added.items in
    let ps : List Partition = standing_in (versions_of t.history) in
    let has = at_hand t.history (edits_in c.args.edits) c.in_ok-candidates.candidates.items c.deref.result.now
    c.in_ok-loaded.loaded.items c.deref-2.result.now c.in_ok-at_hand.at_hand.items c.deref-3.result.now
    c.in_ok-candidates.ensures.touched c.deref.ensures.value (c.in_ok-loaded.ensures.loaded shown)
    c.deref-2.ensures.value c.in_ok-at_hand.ensures.partitions c.deref-3.ensures.value in
    let apart = c.are_apart.ensures
    ∙ (λ i. all_apart (without (c.deref-4.ensures.value i) ps) (map (λ p. p) (c.deref-5.ensures.value i)))
    ∙ ap (all_apart (without removed ps)) (map-id added) in
    record {
      removed = c.in_ok-rewritten.ensures.removed has;
      added = c.in_ok-rewritten.ensures.added has;
      apart = (Decides-all_apart (without removed ps) added).0 (sym apart ∙ c.if-not-are_apart.false);
    }

pub load_some-requires-clause-among : goal.load_some-requires-clause-among
load_some-requires-clause-among g c =
    still_among c.in_ok-candidates.candidates.items c.deref.result.now (filed_of c.args.self.now) c.deref.ensures.value
    c.in_ok-candidates.ensures.among
