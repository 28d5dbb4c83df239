use Rattle.std.proofs.Common.{◌∙◌, ap, ◌++◌, ◌∷◌, [], List, ℕ, arith}
use Rattle.wh_waves.specs.Waves.{waves_in}
use Rattle.wh_waves.proofs.wave.put_behind.Goals as goal
use Rattle.wh_waves.proofs.WaveLemmas.{put_set, put_last}

pub returns-then-behind-len : goal.returns-then-behind-len
returns-then-behind-len c =
    put_set c.args.behind c.args.id c.args.waves.now.items c.index_mut.result.now c.push.new.self
    (omega (arith, c.if-behind-len.true, c.len.ensures)) c.index_mut.ensures.value c.in_ok-push.ensures.items

pub returns : goal.returns
returns c =
    ap waves_in c.in_ok-push-3.ensures.items
    ∙ put_last c.args.behind c.args.id c.args.waves.now.items c.push-2.new.self
    (omega (arith, c.if-behind-len.false, c.len.ensures))
    (c.in_ok-push-2.ensures.items ∙ ap (λ (l : List ℕ). l ++ c.args.id ∷ []) c.new-wave.ensures.items)
