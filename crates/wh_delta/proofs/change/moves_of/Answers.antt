use Rattle.std.proofs.Common.{◌≡◌, true, false, sym, ◌∙◌}
use Rattle.wh_algebra.specs.View.{query_of}
use Rattle.wh_delta.proofs.Arms.{net_arm}
use Rattle.wh_delta.proofs.change.moves_of.Goals as goal

pub returns-then-is_linear-clause-change : goal.returns-then-is_linear-clause-change
returns-then-is_linear-clause-change g c = λ comes goes stays.
    net_arm (query_of c.args.query.now) _ c.net_over.result
    (sym c.is_linear.ensures ∙ c.if-is_linear.true) (c.net_over.ensures.net comes goes)

pub carried-requires : goal.carried-requires
carried-requires g c = (
  c.type_bounds.sync-R,
  record {
    old = c.requires.stays (sym c.is_linear.ensures ∙ c.if-is_linear.false);
    comes = c.requires.comes;
    goes = c.requires.goes;
  },
)

pub returns-clause-change : goal.returns-clause-change
returns-clause-change g c = λ comes goes stays. c.carried.ensures.change (record {
  old = stays (sym c.is_linear.ensures ∙ c.if-is_linear.false);
  comes = comes;
  goes = goes;
})

pub returns-clause-sound : goal.returns-clause-sound
returns-clause-sound g c = λ comes goes stays. c.carried.ensures.sound (record {
  old = stays (sym c.is_linear.ensures ∙ c.if-is_linear.false);
  comes = comes;
  goes = goes;
})

pub returns-clause-asks : goal.returns-clause-asks
returns-clause-asks g c = λ is.
    let none : true ≡ false = sym is ∙ (sym c.is_linear.ensures ∙ c.if-is_linear.false) in absurd cc
