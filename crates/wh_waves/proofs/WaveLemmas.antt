-- Waves of code: how many come up to some ids, and an id that is put among them.
--     depth_first            none behind the first has one of them: so it counts, where it does
--     put_set, put_last      an id in one of them, and in a new one behind all
use Rattle.std.proofs.Common.{◌≡◌, ℕ, zero, suc, ◌-◌, ◌<◌, ◌≤◌, Bool, List, [], ◌∷◌, ◌++◌, length, get_or, take, drop}
use Rattle.std.proofs.Common.{sym, ap, ◌∙◌, arith}
use Rattle.std.specs.Prelude.{slice_set}
use Rattle.std.specs.List.{list_any}
use Rattle.std.specs.declared.vec.Vec.{Vec}
use Rattle.std.specs.declared.alloc.Global.{Global}
use Rattle.std.proofs.lemmas.List.{take_rest}
use Rattle.wh_state.specs.Edits.{is_among}
use Rattle.wh_waves.specs.Waves.{deeper, depth, put_behind, waves_in}

pub depth_first : (sources : List ℕ) (waves : List (Vec ℕ Global)) (first : Vec ℕ Global) (ids : List ℕ) (d : ℕ)
    (here : Bool) → 1 ≤ length waves → first ≡ get_or waves 0 first → ids ≡ first.items
    → d ≡ depth sources (waves_in (take (length waves - 1) (drop 1 waves))) → d ≤ 0
    → here ≡ list_any (λ id. is_among id sources) ids → deeper 0 here ≡ depth sources (waves_in waves)
depth_first sources [] first ids d here some is are deep none has = absurd (omega (arith, some))
depth_first sources (wave ∷ waves) first ids d here some is are deep none has =
    let flat : d ≡ 0 = omega (arith, none) in
    let behind : 0 ≡ depth sources (waves_in waves) =
    sym flat ∙ deep ∙ ap (λ (l : List (Vec ℕ Global)). depth sources (waves_in l)) (take_rest (wave ∷ waves) 1) in
    let there : here ≡ list_any (λ id. is_among id sources) wave.items =
    has ∙ ap (list_any (λ id. is_among id sources)) (are ∙ ap (λ (v : Vec ℕ Global). v.items) is) in
    ap (deeper 0) there ∙ ap (λ (n : ℕ). deeper n (list_any (λ id. is_among id sources) wave.items)) behind

pub put_set : (behind id : ℕ) (waves : List (Vec ℕ Global)) (old new : Vec ℕ Global) → behind < length waves
    → old ≡ get_or waves behind old → new.items ≡ old.items ++ id ∷ []
    → waves_in (slice_set waves behind new) ≡ put_behind behind id (waves_in waves)
put_set behind id [] old new low was is = absurd (omega (arith, low))
put_set zero id (wave ∷ waves) old new low was is =
    ap (λ (l : List ℕ). l ∷ waves_in waves) (is ∙ ap (λ (v : Vec ℕ Global). v.items ++ id ∷ []) was)
put_set (suc behind) id (wave ∷ waves) old new low was is =
    ap (λ (ws : List (List ℕ)). wave.items ∷ ws) (put_set behind id waves old new (omega (arith, low)) was is)

pub put_last : (behind id : ℕ) (waves : List (Vec ℕ Global)) (last : Vec ℕ Global) → length waves ≤ behind
    → last.items ≡ id ∷ [] → waves_in (waves ++ last ∷ []) ≡ put_behind behind id (waves_in waves)
put_last behind id [] last high is = ap (λ (l : List ℕ). l ∷ []) is
put_last zero id (wave ∷ waves) last high is = absurd (omega (arith, high))
put_last (suc behind) id (wave ∷ waves) last high is =
    ap (λ (ws : List (List ℕ)). wave.items ∷ ws) (put_last behind id waves last (omega (arith, high)) is)
