use Rattle.std.proofs.Common.{rules, ◌≡◌, ◌∙◌, ℕ, ◌+◌, ◌≤◌, cond, Bool, true, false, [], ◌∷◌, List, take, drop}
use Rattle.std.proofs.Common.{count_by, get_or, refl, sym, ap, arith, length-take-le}
use Rattle.std.proofs.lemmas.List.{drop_all}
use mir.Val.{bool_byte}
use Rattle.wh_world.specs.Events.{content}
use Rattle.wh_world.specs.Cut.{cut_call}
use Rattle.wh_world.specs.Logged.{events, is_sync, kept_of, event_of, Tears}
use Rattle.wh_world.specs.declared.logged.Logged.{Logged}
use Rattle.wh_world.specs.declared.logged.Logged.TheVariants.{Wrote}
use Rattle.wh_world.proofs.Imaged.{begins, at_next, fits, rest_is, with_rest, replayed, torn_on, ended, ended_there}
use Rattle.wh_world.proofs.Cutting.{bare_image}
use Rattle.wh_world.proofs.imaging.image_of.Goals as goal
use Rattle.wh_world.proofs.imaging.image_of.Goals.{then-syncs-gt0+in_ok-replay, else-syncs-gt0+in_ok-replay_torn}

counts : (b : Bool) → bool_byte b ≡ cond b 1 0
counts true = refl
counts false = refl

at_most_one : (b : Bool) → cond b 1 0 ≤ 1
at_most_one true = omega arith
at_most_one false = omega arith

pub loop-call-init : goal.loop-call-init
loop-call-init c =
    let counted : c.count-syncs.result ≡ count_by is_sync c.args.log.now = search rules in
    begins _ _ _ _ _ _ _ c.in_ok-image.ensures.items c.requires counted

pub slice_bounds-piece-end : goal.slice_bounds-piece-end
slice_bounds-piece-end c =
    let walks =
    at_next _ _ _ _ _ _ _ _ _ _ (Wrote 0 0) c.loop-call.invariant c.loop-call-test.true in
    let within = fits _ _ _ _ _ _ _ _ _ _ walks in
    sym (length-take-le _ _ (omega (arith, c.kept.ensures, within)))

pub replay_torn-requires : goal.replay_torn-requires
replay_torn-requires c =
    let walks =
    at_next _ _ _ _ _ _ _ _ _ _ (Wrote 0 0) c.loop-call.invariant c.loop-call-test.true in
    let within = fits _ _ _ _ _ _ _ _ _ _ walks in
    length-take-le _ _ (omega (arith, c.kept.ensures, within)) ∙ c.kept.ensures

pub loop-call-preserved : goal.loop-call-preserved
loop-call-preserved c =
    let call : Logged = get_or c.args.log.now c.loop-call.call-index (Wrote 0 0) in
    let piece : List ℕ = take (kept_of call) c.loop-call.rest.now in
    let old : List ℕ = c.loop-call.image.items in
    let new : List ℕ = c.if-syncs-gt0.image.items in
    let walks =
    at_next _ _ _ _ _ _ _ _ _ _ (Wrote 0 0) c.loop-call.invariant c.loop-call-test.true in
    let within = fits _ _ _ _ _ _ _ _ _ _ walks in
    let rest = rest_is c.loop-call.rest.now c.kept.result (kept_of call) c.kept.ensures within in
    elim c.if-syncs-gt0.branch [
      | then-syncs-gt0+in_ok-replay w ↦
          let whole : new ≡ content old (event_of call piece ∷ []) =
          cc (w.in_ok-replay.ensures, w.image-is, c.kept.ensures) in
          let one : w.from-syncs.result ≡ cond (is_sync call) 1 0 =
          w.from-syncs.ensures ∙ ap bool_byte w.is_sync.ensures ∙ counts (is_sync call) in
          let fewer : c.if-syncs-gt0.syncs + cond (is_sync call) 1 0 ≡ c.loop-call.syncs =
          omega (arith, at_most_one (is_sync call)) in
          let on = replayed _ _ _ _ call _ _ _ _ _ _ _ walks w.if-syncs-gt0.true fewer whole in
          rw w.cut-is (with_rest _ _ _ _ _ _ _ _ _ _ rest on)
      | else-syncs-gt0+in_ok-replay_torn w ↦
          let called = w.in_ok-replay_torn.ensures in
          let torn : Tears call old new = rw w.image-is called.torn in
          let there : new ≡ cut_call call piece old c.loop-call.cut c.args.tear.fill =
          rw w.image-is (cc (called.there, c.kept.ensures)) in
          let on = torn_on _ _ _ _ call _ _ _ _ _ _ _ walks w.if-syncs-gt0.false torn there called.cut in
          rw (w.syncs-is, w.cut-is) (with_rest _ _ _ _ _ _ _ _ _ _ rest on)
    ]

pub returns-clause-image : goal.returns-clause-image
returns-clause-image c =
    let later : drop c.loop-call.call-index c.args.log.now ≡ [] =
    drop_all _ _ c.loop-call-test.false in
    ended _ _ _ _ _ _ _ _ (rw later at c.loop-call.invariant)

pub returns-clause-cut : goal.returns-clause-cut
returns-clause-cut c =
    let later : drop c.loop-call.call-index c.args.log.now ≡ [] =
    drop_all _ _ c.loop-call-test.false in
    ended_there _ _ _ _ _ _ _ _ (rw later at c.loop-call.invariant)

pub returns-clause-synced : goal.returns-clause-synced
returns-clause-synced c nothing bare =
    let cut = rw (nothing, bare) at (returns-clause-cut c) in
    cut ∙ bare_image c.args.first.now (events [] c.args.log.now c.args.pieces.now)
