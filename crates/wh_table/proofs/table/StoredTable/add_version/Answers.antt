use Rattle.std.proofs.Common.{◌≡◌, refl, ◌+◌, ◌∙◌, ◌++◌, ◌∷◌, [], ap, sym, subst, List, length, map, IsTrue, arith}
use Rattle.std.specs.List.{list_all}
use Rattle.std.proofs.lemmas.Bool.{and_from}
use Rattle.std.proofs.lemmas.List.{length-map}
use Rattle.std.specs.Prelude.{not}
use Rattle.wh_frame.specs.Partition.{Partition}
use Rattle.wh_value.specs.View.{column_of}
use Rattle.wh_state.specs.Stored.{StoredVersion}
use Rattle.wh_state.specs.Edits.{without, is_among}
use Rattle.wh_version.specs.Lists.{shortened}
use Rattle.wh_version.specs.History.{versions_of, nexts_of, filed_of, standing_in, partitions_of, next_in, popped}
use Rattle.wh_version.specs.History.{pushed_with}
use Rattle.wh_version.specs.Lasting.{version_by, versions_by}
use Rattle.wh_table.specs.Table.{kept_table}
use Rattle.wh_table.specs.Apart.{is_apart, is_rising, rows_rise, highest_number}
use Rattle.wh_table.proofs.Apart.{changed_apart, highest_number-append}
use Rattle.wh_table.proofs.Pushed.{shortened-push, popped-push, next_in-push, filed_back, last_apart}
use Rattle.wh_table.proofs.Rising.{each_filter, each_append, last_rising}
use Rattle.wh_table.proofs.table.StoredTable.add_version.Goals as goal

pub invariant_of-self : goal.invariant_of-self
unfolding kept_table
invariant_of-self c =
    let t = c.args.self.now in
    let P : List StoredVersion → Type 0 = λ vs. IsTrue (list_all is_apart vs) in
    let same = sym c.in_err-push.ensures.same in
    record {
      few_columns = t.few_columns;
      row_numbers = t.row_numbers;
      highest_row = t.highest_row ∙ ap highest_number (sym c.in_err-push.ensures.same_partitions);
      apart = subst P same t.apart;
      rising = subst (λ vs. IsTrue (list_all is_rising vs)) same t.rising;
    }

pub invariant_of-self-2 : goal.invariant_of-self-2
unfolding kept_table
invariant_of-self-2 c =
    let t = c.args.self.now in
    let versions = versions_of t.history in
    let removed = c.args.change.removed.items in
    let added = c.args.change.added.items in
    let same = c.in_ok-removed.ensures.same in
    let ps : List Partition = standing_in versions in
    let v : StoredVersion = record {
      stamp = c.args.stamp;
      data_timestamp = c.args.change.data_timestamp;
      content = without removed ps ++ added;
    } in
    let gone = c.deref-2.ensures.value ∙ c.in_ok-removed.ensures.removed in
    let now : versions_of c.push.new.self ≡ versions ++ v ∷ [] = c.in_ok-push.ensures.versions
    ∙ (λ i. pushed_with versions c.args.stamp c.args.change.data_timestamp (gone i) (same i)) in
    let P : List StoredVersion → Type 0 = λ vs. IsTrue (list_all is_apart vs) in
    let highest = ap highest_number (c.in_ok-push.ensures.partitions ∙ ap (λ l. partitions_of t.history ++ l) same)
    ∙ highest_number-append (partitions_of t.history) added in
    let before = t.highest_row in
    let added_rising : IsTrue (list_all rows_rise added) =
    subst (λ qs. IsTrue (list_all rows_rise qs)) c.deref.ensures.value c.highest_of-highest.ensures.rising in
    let new_rising = each_append rows_rise (without removed ps) added (each_filter rows_rise
    (λ p. not (is_among p.number removed)) ps (last_rising versions t.rising)) added_rising in
    record {
      few_columns = t.few_columns;
      row_numbers = c.requires.next_row;
      highest_row = omega
          (arith, highest, before, c.highest_of-highest.ensures.highest, ap highest_number c.deref.ensures.value);
      apart = subst P (sym now) (each_append is_apart versions (v ∷ []) t.apart
          (and_from _ _ (changed_apart removed ps added (last_apart versions t.apart) c.requires.apart) refl));
      rising = subst (λ vs. IsTrue (list_all is_rising vs)) (sym now)
          (each_append is_rising versions (v ∷ []) t.rising (and_from _ _ new_rising refl));
    }

pub returns-clause-pushed : goal.returns-clause-pushed
unfolding kept_table
returns-clause-pushed c =
    let t = c.args.self.now in
    let versions = versions_of t.history in
    let removed = c.args.change.removed.items in
    let added = c.args.change.added.items in
    let same = c.in_ok-removed.ensures.same in
    let gone = c.deref-2.ensures.value ∙ c.in_ok-removed.ensures.removed in
    let now : versions_of c.push.new.self
    ≡ pushed_with versions c.args.stamp c.args.change.data_timestamp removed added =
    c.in_ok-push.ensures.versions
    ∙ (λ i. pushed_with versions c.args.stamp c.args.change.data_timestamp (gone i) (same i)) in
    let count : length c.in_ok-removed.filed.items ≡ length added =
    sym (length-map c.in_ok-removed.filed.items (λ f. f.partition)) ∙ ap length same in
    let next : next_in (nexts_of c.push.new.self) ≡ next_in (nexts_of t.history) + length added =
    ap next_in c.in_ok-push.ensures.nexts ∙ next_in-push (nexts_of t.history) _
    ∙ ap (λ n. next_in (nexts_of t.history) + n) count in
    λ i. record {
      created = t.created;
      columns = map column_of t.columns.items;
      retention = t.retention;
      next_row = c.args.change.next_row;
      next_partition = next i;
      versions = now i;
    }

pub returns-clause-back : goal.returns-clause-back
unfolding kept_table versions_of nexts_of
returns-clause-back c =
    let t = c.args.self.now in
    let h = t.history in
    let empty = c.push.ensures.empty in
    let versions = (λ i. popped (empty i) (c.in_ok-push.ensures.versions i))
    ∙ popped-push h.starts_empty (version_by h.kept.items 0 h.first) (versions_by h.kept.items 1 h.later.items) _ in
    let nexts = ap shortened c.in_ok-push.ensures.nexts ∙ shortened-push _ _ _ in
    let filed = filed_back h (nexts_of c.push.new.self) (filed_of c.push.new.self) c.in_ok-removed.filed.items nexts
    c.in_ok-push.ensures.filed in
    λ i. record {
      created = t.created;
      columns = map column_of t.columns.items;
      retention = t.retention;
      starts_empty = empty i;
      next_row = t.next_row;
      versions = versions i;
      nexts = nexts i;
      filed = filed i;
    }

pub returns-clause-filed : goal.returns-clause-filed
unfolding kept_table
returns-clause-filed c =
    c.in_ok-push.ensures.filed ∙ ap (λ l. filed_of c.args.self.now.history ++ l) c.in_ok-removed.ensures.placed
