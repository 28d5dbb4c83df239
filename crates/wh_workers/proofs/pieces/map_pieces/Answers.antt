use Rattle.std.proofs.Common.{◌≡◌, ◌+◌, ◌*◌, ℕ, take, drop, refl, ap, sym, subst, ◌∙◌, rules, arith}
use Rattle.std.specs.Fn.{FnReturnsAt}
use Rattle.std.specs.Prelude.{slice_index_or}
use Rattle.wh_workers.proofs.CutLaws.{both_ok, one_piece, cut_all}
use Rattle.wh_workers.proofs.pieces.map_pieces.Goals as goal

pub returns-then-workers-eq1 : goal.returns-then-workers-eq1
returns-then-workers-eq1 g c =
    rw (c.in_ok-push.ensures.items, c.in_ok-answers.ensures.items)
    (one_piece _ c.args.workers.now.count c.args.items.now c.f.result c.args.workers.now.some
    (record { shown = c.args.items; shows = refl; says = record { met = c.f.ensures } }))

pub returns : goal.returns
returns g c =
    both_ok c.map_chunks.result _ _ _ c.map_chunks.ensures.len c.map_chunks.ensures.each (λ answers long each.
    cut_all _ c.div_ceil-size.result c.args.items.now c.args.workers.now.count answers.items c.args.workers.now.some (search rules)
    c.div_ceil-size.ensures (sym answers.ok.0 ∙ long)
    (λ n d lt. let at = (each n d lt).1 in
    let zero_on : n * c.div_ceil-size.result ≡ 0 + n * c.div_ceil-size.result = omega arith in
    subst (λ piece. FnReturnsAt g.F.Fn c.args.f.now piece (slice_index_or answers.items n d))
    (at.argument_is.value ∙ ap (λ (k : ℕ). take c.div_ceil-size.result (drop k c.args.items.now)) zero_on) at.call))
