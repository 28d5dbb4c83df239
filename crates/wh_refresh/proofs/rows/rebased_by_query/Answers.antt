use Rattle.std.proofs.Common.{Option, Some, None, subst, sym, ◌∙◌}
use Rattle.wh_meaning.specs.Bag.{Bag}
use Rattle.wh_filed.proofs.FetchingLaws.{still_covered}
use Rattle.wh_state.specs.State.{last_rows}
use Rattle.wh_state.specs.Stored.{table_meant}
use Rattle.wh_table.specs.Table.{table_of, filed_of}
use Rattle.wh_refresh.specs.Rebased.{RebasesTo}
use Rattle.wh_refresh.proofs.SourceLemmas.{still_shown}
use Rattle.wh_refresh.proofs.rows.rebased_by_query.Goals as goal

pub returns-in_default-clause-rebased : goal.returns-in_default-clause-rebased
returns-in_default-clause-rebased g c shown own stamp bs are above =
    subst (λ (f : Option Bag). RebasesTo (last_rows (table_meant (table_of c.args.table.now))) f None)
    (sym c.in_default.is ∙ c.in_ok-rows.ensures.evaluated shown stamp bs are above) tt

pub rebased-requires : goal.rebased-requires
rebased-requires g c =
    still_covered _ _ (filed_of c.args.table.now)
    (λ part. g.met.F.Fetch.covers_on _ _ part c.in_ok-rows.ensures.goes) c.requires.own

pub returns-clause-rebased : goal.returns-clause-rebased
returns-clause-rebased g c shown own stamp bs are above =
    let old = last_rows (table_meant (table_of c.args.table.now)) in
    subst (λ (f : Option Bag). RebasesTo old f (Some c.in_ok-rebased.rebased))
    (sym c.in-Some.is ∙ c.in_ok-rows.ensures.evaluated shown stamp bs are above)
    (c.in_ok-rebased.ensures.rebased
    (still_shown _ _ (filed_of c.args.table.now) c.in_ok-rows.ensures.same own))
