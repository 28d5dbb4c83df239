use Rattle.std.proofs.Common.{◌≡◌, ◌+◌, ◌-◌, length, map, take, drop, option_map, sym, ap, ◌∙◌, arith}
use Rattle.std.proofs.lemmas.List.{take_rest}
use Rattle.wh_machine.specs.Sessions.{holder}
use Rattle.wh_txn.specs.View.{transaction_of, sessions_of}
use Rattle.wh_txn.proofs.SlotLemmas.{held_first, held_later}
use Rattle.wh_txn.proofs.sessions.Sessions.locked_by.Goals.{After-holder-earlier}
use Rattle.wh_txn.proofs.sessions.Sessions.locked_by.Goals as goal

-- who holds it among the sessions before
module _ (c : After-holder-earlier) where
  first : c.holder-earlier.result
      ≡ holder (map (option_map transaction_of) (take c.args.session c.args.self.now.slots.items)) c.args.id
  first =
      c.holder-earlier.ensures
      ∙ ap (λ l. holder (map (option_map transaction_of) (take c.args.session l)) c.args.id) c.deref-2.ensures.value

pub returns-then-is_some : goal.returns-then-is_some
unfolding sessions_of
returns-then-is_some c =
    held_first c.args.self.now.slots.items c.args.session c.args.id (omega (arith, c.len.ensures))
    c.holder-earlier.result (first (goal.at.returns-then-is_some c).After-holder-earlier)
    (sym c.is_some.ensures ∙ c.if-is_some.true)

pub returns : goal.returns
unfolding sessions_of
returns c =
    let slots = c.args.self.now.slots.items in
    let behind = c.args.session + 1 in
    let rest = ap (λ l. take (length l - behind) (drop behind l)) c.deref-3.ensures.value ∙ take_rest slots behind in
    c.holder-2.ensures
    ∙ held_later slots c.args.session c.args.id (omega (arith, c.len.ensures)) c.holder-earlier.result
    (first (goal.at.returns c).After-holder-earlier) _ rest (sym c.is_some.ensures ∙ c.if-is_some.false)
