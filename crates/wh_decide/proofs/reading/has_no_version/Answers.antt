use Rattle.std.proofs.Common.{ℕ, ap}
use Rattle.std.specs.Prelude.{nat_eq}
use Rattle.wh_table.specs.Table.{table_of}
use Rattle.wh_decide.proofs.ReadingLemmas.{no_version_in, no_table_in}
use Rattle.wh_decide.proofs.reading.has_no_version.Goals as goal

pub returns-in-Some : goal.returns-in-Some
returns-in-Some c =
    no_version_in c.args.catalog.now c.args.id (table_of c.in-Some.table.now) _ c.in-Some.ensures.table
    (ap (λ (n : ℕ). nat_eq n 0) c.version_count.ensures)

pub returns-in-None : goal.returns-in-None
returns-in-None c = no_table_in c.args.catalog.now c.args.id c.in-None.ensures.table
