use Rattle.std.proofs.Common.{◌∙◌, ℕ, sym, ap, Bool}
use Rattle.std.specs.Prelude.{◌||◌}
use Rattle.std.specs.List.{list_any}
use Rattle.wh_version.specs.Lasting.{versions_by}
use Rattle.wh_version.specs.Lists.{behind}
use Rattle.wh_version.specs.Times.{is_between}
use Rattle.wh_version.specs.History.{versions_of, marked_of}
use Rattle.wh_version.proofs.VersionTimes.{versions_any}
use Rattle.wh_version.proofs.history.History.has_between.Goals as goal

pub returns-then-self : goal.returns-then-self
unfolding versions_of
returns-then-self c =
    let h = c.args.self.now in
    let test : ℕ → Bool = is_between c.args.from c.args.to in
    c.some_between.ensures
    ∙ ap (list_any (λ mark. test mark.data_timestamp)) c.deref.ensures.value
    ∙ sym (versions_any test h.kept.items 1 h.later.items)
    ∙ ap (λ (b : Bool). list_any (λ v. test v.data_timestamp) (behind b (marked_of h))) (sym c.if-self.true)

pub returns-else-lies_between : goal.returns-else-lies_between
unfolding versions_of
returns-else-lies_between c =
    let h = c.args.self.now in
    let test : ℕ → Bool = is_between c.args.from c.args.to in
    c.some_between-else-lies_between.ensures
    ∙ ap (list_any (λ mark. test mark.data_timestamp)) c.deref-else-lies_between.ensures.value
    ∙ sym (versions_any test h.kept.items 1 h.later.items)
    ∙ ap (λ (b : Bool). b || list_any (λ v. test v.data_timestamp) (versions_by h.kept.items 1 h.later.items))
    c.if-lies_between.ensures
    ∙ ap (λ (b : Bool). list_any (λ v. test v.data_timestamp) (behind b (marked_of h))) (sym c.if-self.false)
