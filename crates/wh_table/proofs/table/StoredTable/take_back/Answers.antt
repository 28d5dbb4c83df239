use Rattle.std.proofs.Common.{sym, subst, List, IsTrue}
use Rattle.std.specs.List.{list_all}
use Rattle.wh_state.specs.Stored.{StoredVersion}
use Rattle.wh_version.specs.History.{versions_of}
use Rattle.wh_table.specs.Apart.{is_apart, is_rising}
use Rattle.wh_table.proofs.Rising.{each_popped}
use Rattle.wh_table.proofs.table.StoredTable.take_back.Goals as goal

pub invariant_of-self : goal.invariant_of-self
invariant_of-self c =
    let t = c.args.self.now in
    let P : List StoredVersion → Type 0 = λ vs. IsTrue (list_all is_apart vs) in
    record {
      few_columns = t.few_columns;
      row_numbers = c.requires;
      highest_row = c.highest_kept-self.ensures;
      apart = subst P (sym c.pop.ensures.versions)
          (each_popped is_apart t.history.starts_empty (versions_of t.history) t.apart);
      rising = subst (λ vs. IsTrue (list_all is_rising vs)) (sym c.pop.ensures.versions)
          (each_popped is_rising t.history.starts_empty (versions_of t.history) t.rising);
    }
