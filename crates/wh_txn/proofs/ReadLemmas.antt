-- Changes whose texts are understood.
--     read_more          with a version behind them
--     read_all           with moves of offsets behind them
use Rattle.std.proofs.Common.{◌≡◌, List, [], ◌∷◌, ◌++◌, map, sym, ap, subst, ◌∙◌}
use Rattle.std.proofs.lemmas.List.{map-append}
use Rattle.std.specs.List.{AllByRecursion}
use Rattle.wh_record.specs.View.{UnderstoodChange, change_of}
use Rattle.wh_state.specs.Act.{Act, MakesTable, DropsObject, EditsRows, MakesStream, MovesOffset}
use Rattle.wh_state.specs.Act.{MakesTask, PutsTask, BeginsRun, EndsTask, MakesDynamic, PutsDynamic, RefreshesRows}
use Rattle.wh_state.specs.Commit.{Change, VersionChange, PushesVersion}
use Rattle.wh_state.specs.Spelling.{IsUnderstood}
use Rattle.wh_state.proofs.AllLaws.{all_append}
use Rattle.wh_txn.specs.Recording.{AreRead, offset_written, offsets_written}

pub read_more : (old new : List UnderstoodChange) (one : UnderstoodChange)
    (v : VersionChange) → new ≡ old ++ one ∷ [] → change_of one ≡ PushesVersion v → AreRead old → AreRead new
read_more old new one v pushed is read =
    subst (λ (changes : List Change). AllByRecursion IsUnderstood changes)
    (sym (ap (λ changes. map change_of changes) pushed ∙ map-append change_of old (one ∷ [])))
    (all_append IsUnderstood (map change_of old) (change_of one ∷ []) read
    (subst (λ (c : Change). IsUnderstood c) (sym is) tt, tt))

offset_read : (act : Act) → AllByRecursion IsUnderstood (offset_written act)
offset_read (MovesOffset id offset) = (tt, tt)
offset_read (MakesTable name columns retention) = tt
offset_read (DropsObject id) = tt
offset_read (EditsRows id e) = tt
offset_read (MakesStream name source is_append_only) = tt
offset_read (MakesTask name minutes after runs) = tt
offset_read (PutsTask id state) = tt
offset_read (BeginsRun root tasks) = tt
offset_read (EndsTask root task ending) = tt
offset_read (MakesDynamic name lag is_incremental query columns) = tt
offset_read (PutsDynamic id state) = tt
offset_read (RefreshesRows id moment e groups) = tt

offsets_read : (acts : List Act) → AllByRecursion IsUnderstood (offsets_written acts)
offsets_read [] = tt
offsets_read (act ∷ acts) =
    all_append IsUnderstood (offset_written act) (offsets_written acts) (offset_read act) (offsets_read acts)

pub read_all : (old new : List UnderstoodChange) (acts : List Act)
    → map change_of new ≡ map change_of old ++ offsets_written acts → AreRead old → AreRead new
read_all old new acts is read =
    subst (λ (changes : List Change). AllByRecursion IsUnderstood changes) (sym is)
    (all_append IsUnderstood (map change_of old) (offsets_written acts) read (offsets_read acts))
