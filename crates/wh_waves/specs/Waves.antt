-- Waves of a refresh: which of its tables may be brought at once.
--     reads_at           what the dynamic table of an id reads directly
--     depth              how many waves come up to the last one that has one of some ids
--     put_behind         an id in the wave behind so many
--     waves              by rising ids, each in the first wave behind those that it reads
--     waves_in           waves that code has, as lists
--     all_in             the ids of some waves
--     Follows            each wave reads only what is done before it
--     Once               no id comes twice
--     AreWavesOf         so it is of waves that have some ids, each once
use Rattle.std.specs.Prelude.{◌≡◌, ℕ, zero, suc, ◌<◌, Bool, true, false, List, [], ◌∷◌, ◌++◌, map}
use Rattle.std.specs.List.{AllByRecursion, list_any, flat_map}
use Rattle.std.specs.Option.{option_map_or}
use Rattle.std.specs.declared.vec.Vec.{Vec}
use Rattle.std.specs.declared.alloc.Global.{Global}
use Rattle.wh_state.specs.Edits.{is_among}
use Rattle.wh_moment.specs.Upstream.{Dynamics, watched_at}

abbrev pub reads_at : Dynamics → ℕ → List ℕ
reads_at all id = option_map_or (λ w. w.sources) (watched_at all id) []

-- one deeper than what is behind the first wave; or that wave itself, where it has one of them
abbrev pub deeper : ℕ → Bool → ℕ
deeper (suc depth) here = suc (suc depth)
deeper zero true = 1
deeper zero false = 0

abbrev pub depth : List ℕ → List (List ℕ) → ℕ
depth sources [] = 0
depth sources (wave ∷ waves) = deeper (depth sources waves) (list_any (λ id. is_among id sources) wave)

abbrev pub put_behind : ℕ → ℕ → List (List ℕ) → List (List ℕ)
put_behind depth id [] = (id ∷ []) ∷ []
put_behind zero id (wave ∷ waves) = (wave ++ id ∷ []) ∷ waves
put_behind (suc depth) id (wave ∷ waves) = wave ∷ put_behind depth id waves

abbrev pub waves_behind : Dynamics → List (List ℕ) → List ℕ → List (List ℕ)
waves_behind all waves [] = waves
waves_behind all waves (id ∷ ids) = waves_behind all (put_behind (depth (reads_at all id) waves) id waves) ids

unfoldable pub waves : Dynamics → List ℕ → List (List ℕ)
waves all ids = waves_behind all [] ids

abbrev pub waves_in : List (Vec ℕ Global) → List (List ℕ)
waves_in waves = map (λ wave. wave.items) waves

-- ---- what they keep

abbrev pub all_in : List (List ℕ) → List ℕ
all_in waves = flat_map (λ wave. wave) waves

-- what a table reads of some ids, below it, is done
abbrev pub ReadsOnly : Dynamics → List ℕ → List ℕ → ℕ → Type 0
ReadsOnly all ids done id = (source : ℕ) → is_among source (reads_at all id) ≡ true → source < id
    → is_among source ids ≡ true → is_among source done ≡ true

abbrev pub Follows : Dynamics → List ℕ → List ℕ → List (List ℕ) → Type 0
Follows all ids done [] = Unit {0}
Follows all ids done (wave ∷ waves) =
    AllByRecursion (ReadsOnly all ids done) wave × Follows all ids (done ++ wave) waves

abbrev pub Once : List ℕ → Type 0
Once [] = Unit {0}
Once (id ∷ ids) = (is_among id ids ≡ false) × Once ids

pub record AreWavesOf (all : Dynamics) (ids : List ℕ) (waves : List (List ℕ)) : Type 0 where
  pub follows : Follows all ids [] waves
  pub same : (id : ℕ) → is_among id (all_in waves) ≡ is_among id ids
  pub once : Once (all_in waves)
