use Rattle.std.proofs.Common.{ℕ, [], ◌∷◌, cond, sym, ap, ◌∙◌}
use Rattle.std.specs.Prelude.{List, nat_lt}
use Rattle.wh_state.specs.Act.{Act, MovesOffset}
use Rattle.wh_machine.specs.Offsets.{offset_move}
use Rattle.wh_txn.proofs.SeenLemmas.{catalog_stream}
use Rattle.wh_txn.proofs.offsets.is_below.Goals as goal

pub returns-in-Some : goal.returns-in-Some
returns-in-Some c =
    ap (offset_move c.args.start c.args.id) (catalog_stream c.args.catalog.now c.args.id ∙ sym c.in-Some.ensures)
    ∙ ap (λ (offset : ℕ). cond {A = List Act} (nat_lt offset c.args.start) (MovesOffset c.args.id c.args.start ∷ []) [])
    (sym c.offset.ensures)

pub returns-in-None : goal.returns-in-None
returns-in-None c =
    ap (offset_move c.args.start c.args.id) (catalog_stream c.args.catalog.now c.args.id ∙ sym c.in-None.ensures)
