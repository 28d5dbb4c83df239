use Rattle.std.proofs.Common.{rules, ◌≡◌, ◌++◌, ◌∷◌, [], ◌∙◌, ap, sym, map, length, arith}
use Rattle.std.specs.Vec.Iter.{into_iter_items}
use Rattle.std.proofs.lemmas.Result.{err_from_is_err_and}
use Rattle.std.proofs.lemmas.List.{map_push}
use Rattle.wh_record.specs.View.{change_of, text_change_of}
use Rattle.wh_commit_parse.specs.Meant.{changes_meant}
use Rattle.wh_commit_parse.proofs.Turns.{behind, more_made, not_made}
use Rattle.wh_commit_parse.proofs.meaning.changes_meant.Goals as goal

pub returns-in_err-meant : goal.returns-in_err-meant
returns-in_err-meant c =
    let p = err_from_is_err_and c.from_residual.result c.from_residual.ensures.1 in
    let at = c.loop-change in
    let made = map change_of at.made.items in
    let all : into_iter_items c.into_iter-change-iterator.result ≡ c.args.changes.items = search rules in
    let so_far = ap (λ items. changes_meant (map text_change_of items)) (sym all)
    ∙ at.invariant.meant
    ∙ ap (λ items. behind made (changes_meant (map text_change_of items))) c.in-Some.ensures.steps.0 in
    rw (p.1, p.2) (not_made _ made (text_change_of c.in-Some.change)
    (map text_change_of (into_iter_items c.next.new.self)) c.in_err-meant.field-0.0 so_far c.in_err-meant.ensures)

pub loop-change-preserved : goal.loop-change-preserved
loop-change-preserved c =
    let at = c.loop-change in
    let made = map change_of at.made.items in
    let steps = c.in-Some.ensures.steps.0 in
    let so_far = at.invariant.meant
    ∙ ap (λ items. behind made (changes_meant (map text_change_of items))) steps in
    let meant = c.in_ok-meant.meant in
    let e : map change_of c.push_reserved.new.self.items ≡ made ++ change_of meant ∷ [] =
    ap (map change_of) (c.push_reserved.ensures.items ∙ ap (λ l. l ++ meant ∷ []) c.reserve.ensures.items)
    ∙ map_push _ at.made.items meant in
    let was = at.invariant.count in
    let gone = c.in-Some.ensures.steps.1 in
    let short = ap length steps in
    record {
      meant = rw e (more_made _ made (text_change_of c.in-Some.change)
          (map text_change_of (into_iter_items c.next.new.self)) (change_of meant) so_far c.in_ok-meant.ensures);
      count = omega arith;
    }
