-- What words ask for, by whether `clap` finds a fault.
--     refused     it finds one
--     passed      it finds none
use Rattle.std.proofs.Common.{◌≡◌, [], ◌∷◌, Option, refl, sym}
use Rattle.std.specs.Prelude.{Result, Err}
use Rattle.clap.specs.Words.{Kinds}
use Rattle.wh_words.specs.declared.task.Task.{Task}
use Rattle.wh_words.specs.declared.task.Misread.{Misread}
use Rattle.wh_words.specs.declared.task.Misread.TheVariants.{Usage, OutOfMemory}
use Rattle.wh_words.specs.Task.{Reads}
use Rattle.wh_words.specs.Words.{where_none}

pub refused : (fault : Misread) (kinds : Kinds) (task : Option Task) → (fault ≡ Usage → kinds ≡ [] → ⊥) →
    Reads (Err fault) (where_none kinds task)
refused OutOfMemory kinds task why = tt
refused Usage [] task why = absurd (why refl refl)
refused Usage (k ∷ ks) task why = refl

pub passed : (kinds : Kinds) (task meant : Option Task) (told : Result Task Misread) → kinds ≡ [] → task ≡ meant →
    Reads told task → Reads told (where_none kinds meant)
passed kinds task meant told none same says = rw (none, sym same) says
