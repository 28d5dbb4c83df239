-- What changes of the groups of some keys, from what moves them.
--     now_at              what stands at a key afterwards
--     group_row           the row of a group; shown_rows, none where no group is
--     befores, afters     the rows before and afterwards
--     AreChanges          the groups that are other afterwards than before
use Rattle.std.specs.Prelude.{◌≡◌, ◌≢◌, ◌⊎◌, List, [], ◌∷◌, ◌++◌, Option, Some, None, option_map, Result, Ok, Err}
use Rattle.std.specs.FinMap.{get}
use Rattle.wh_value.specs.Value.{Row}
use Rattle.wh_meaning.specs.Scalar.{of_two}
use Rattle.wh_meaning.specs.Query.{Call, Total}
use Rattle.wh_maintenance.specs.Standing.{Standing, Groups, answers, moved, if_left, standing_at}
use Rattle.wh_maintenance.specs.Entries.{GroupEntry}
use Rattle.wh_scalar.specs.declared.fault.EvalFault.{EvalFault}
use Rattle.wh_aggregate.specs.Given.{IsFaultOf}
use Rattle.wh_group.specs.Moves.{Move}
use Rattle.wh_group.specs.declared.settling.Updated.{Updated}

abbrev pub now_at : List Call → Groups → Row × Move → Option Standing
now_at calls groups e = if_left (moved (standing_at calls (get groups e.0)) e.1.0 e.1.1)

abbrev pub group_row : List Call → Row → List Total → Option Row
group_row calls key totals = option_map (λ values. key ++ values) (answers calls totals)

abbrev pub shown_rows : List Call → Row → Option Standing → Option (List Row)
shown_rows calls key None = Some []
shown_rows calls key (Some s) = option_map (λ row. row ∷ []) (group_row calls key s.totals)

abbrev pub appended : List Row → List Row → Option (List Row)
appended rows more = Some (rows ++ more)

abbrev pub befores : List Call → Groups → List (Row × Move) → Option (List Row)
befores calls groups [] = Some []
befores calls groups (e ∷ es) = of_two appended (shown_rows calls e.0 (get groups e.0)) (befores calls groups es)

abbrev pub afters : List Call → Groups → List (Row × Move) → Option (List Row)
afters calls groups [] = Some []
afters calls groups (e ∷ es) = of_two appended (shown_rows calls e.0 (now_at calls groups e)) (afters calls groups es)

abbrev pub pair : List Row → List Row → Option (List Row × List Row)
pair rows more = Some (rows, more)

-- ---- one group

-- what stands at a key is noted, if it isn't as before
abbrev pub Notes : Row → Option Standing → Option Standing → List GroupEntry → List GroupEntry → Type 0
Notes key was now old new =
    ((now ≡ was) × (new ≡ old)) ⊎ ((now ≢ was) × (new ≡ old ++ record { key = key; group = now } ∷ []))

pub record IsEntered (calls : List Call) (groups : Groups) (e : Row × Move) (old new : Updated) : Type 0 where
  pub goes : option_map (λ more. old.goes.items ++ more) (shown_rows calls e.0 (get groups e.0)) ≡ Some new.goes.items
  pub comes : option_map (λ more. old.comes.items ++ more) (shown_rows calls e.0 (now_at calls groups e))
      ≡ Some new.comes.items
  pub entered : Notes e.0 (get groups e.0) (now_at calls groups e) old.entries.items new.entries.items

abbrev pub Enters : Result Unit EvalFault → List Call → Groups → Row × Move → Updated → Updated → Type 0
Enters (Ok done) calls groups e old new = IsEntered calls groups e old new
Enters (Err fault) calls groups e old new = IsFaultOf fault
    (of_two pair (shown_rows calls e.0 (get groups e.0)) (shown_rows calls e.0 (now_at calls groups e)))

-- ---- the groups of all keys

abbrev pub IsChange : List Call → Groups → Row × Move → GroupEntry → Type 0
IsChange calls groups e x = (now_at calls groups e ≢ get groups e.0) × (x.key ≡ e.0) × (x.group ≡ now_at calls groups e)

abbrev pub AreChanges : List Call → Groups → List (Row × Move) → List GroupEntry → Type 0
AreChanges calls groups [] [] = Unit {0}
AreChanges calls groups [] (x ∷ xs) = ⊥
AreChanges calls groups (e ∷ es) [] = (now_at calls groups e ≡ get groups e.0) × AreChanges calls groups es []
AreChanges calls groups (e ∷ es) (x ∷ xs) =
    ((now_at calls groups e ≡ get groups e.0) × AreChanges calls groups es (x ∷ xs))
    ⊎ (IsChange calls groups e x × AreChanges calls groups es xs)

pub record IsSettled (calls : List Call) (groups : Groups) (es : List (Row × Move)) (u : Updated) : Type 0 where
  pub goes : befores calls groups es ≡ Some u.goes.items
  pub comes : afters calls groups es ≡ Some u.comes.items
  pub changes : AreChanges calls groups es u.entries.items

abbrev pub Settles : Result Updated EvalFault → List Call → Groups → List (Row × Move) → Type 0
Settles (Ok u) calls groups es = IsSettled calls groups es u
Settles (Err fault) calls groups es =
    IsFaultOf fault (of_two pair (befores calls groups es) (afters calls groups es))
