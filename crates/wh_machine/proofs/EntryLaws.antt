-- The tables of a transaction, by rising ids.
--     RiseFrom          entries by rising ids, from that id on
--     entries_rise      so are those of the tables that it touched
use Rattle.std.proofs.Common.{ℕ, suc, ◌+◌, ◌≤◌, Bool, true, false, cond, List, [], ◌∷◌, arith}
use Rattle.std.specs.List.{filter}
use Rattle.wh_state.proofs.RisingEntries.{map_rises}
use Rattle.wh_machine.specs.Transaction.{Staged, Transaction, touched}

abbrev pub RiseFrom : ℕ → List (ℕ × Staged) → Type 0
RiseFrom least [] = Unit {0}
RiseFrom least (entry ∷ others) = (least ≤ entry.0) × RiseFrom (suc entry.0) others

rise_weaker : (least more : ℕ) (es : List (ℕ × Staged)) → least ≤ more → RiseFrom more es → RiseFrom least es
rise_weaker least more [] h rising = tt
rise_weaker least more (e ∷ es) h rising = (omega (arith, rising.0), rising.1)

abbrev touched_of : List (ℕ × Staged) → List (ℕ × Staged)
touched_of es = filter (λ entry. entry.1.is_touched) es

pub entries_rise : (t : Transaction) → RiseFrom 0 (touched t)
entries_rise t = map_rises (λ least es. RiseFrom least (touched_of es)) (λ least. tt) one_more t.tables
  where
    one_more : (least : ℕ) (e : ℕ × Staged) (es : List (ℕ × Staged)) → least ≤ e.0
        → RiseFrom (e.0 + 1) (touched_of es) → RiseFrom least (touched_of (e ∷ es))
    one_more least e es from rest = by_test e.1.is_touched
      where
        by_test : (b : Bool) → RiseFrom least (cond b (e ∷ touched_of es) (touched_of es))
        by_test true = (from, rise_weaker (suc e.0) (e.0 + 1) (touched_of es) (omega arith) rest)
        by_test false = rise_weaker least (e.0 + 1) (touched_of es) (omega (arith, from)) rest
