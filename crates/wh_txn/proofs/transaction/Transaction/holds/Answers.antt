use Rattle.std.proofs.Common.{◌∙◌, sym, ap}
use Rattle.std.specs.Prelude.{◌||◌, nat_eq}
use Rattle.std.specs.List.{list_any}
use Rattle.wh_txn.proofs.TableLemmas.{is_held}
use Rattle.wh_txn.proofs.transaction.Transaction.holds.Goals as goal

pub returns-then-contains_key : goal.returns-then-contains_key
returns-then-contains_key c =
    let held = sym c.if-contains_key.true ∙ c.contains_key.ensures ∙ is_held c.args.self.now.tables.entries c.args.id in
    c.if-contains_key.true ∙ ap (λ b. b || list_any (nat_eq c.args.id) c.args.self.now.streams.items) held

pub returns-else-contains_key : goal.returns-else-contains_key
returns-else-contains_key c =
    let held = sym c.if-contains_key.false ∙ c.contains_key.ensures
    ∙ is_held c.args.self.now.tables.entries c.args.id in
    c.is_among.ensures
    ∙ ap (list_any (nat_eq c.args.id)) c.deref.ensures.value
    ∙ ap (λ b. b || list_any (nat_eq c.args.id) c.args.self.now.streams.items) held
