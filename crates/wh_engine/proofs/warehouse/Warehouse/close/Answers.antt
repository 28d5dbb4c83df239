use Rattle.wh_engine.proofs.FileLemmas.{stands_for}
use Rattle.wh_engine.proofs.warehouse.Warehouse.close.Goals as goal

pub returns-clause-stands : goal.returns-clause-stands
returns-clause-stands g c =
    λ filed file told. stands_for file c.args.self.journal c.args.self.catalog (filed.each file told)
