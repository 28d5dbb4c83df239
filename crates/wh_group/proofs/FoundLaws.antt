-- What an update answers.
--     both_moved       the moves of what comes and goes
--     comes_stop, goes_stop, settled_stops     NumberOutOfRange, by where it comes
--     settled_found    what is found
use Rattle.std.specs.Prelude.{◌≡◌, List, [], Option, Some, None, Result, Ok, Err, IfOk}
use Rattle.std.proofs.Common.{refl, subst, inl, inr}
use Rattle.std.specs.FinMap.{empty, entries}
use Rattle.std.specs.Result.{IsErrAnd}
use Rattle.wh_value.specs.Value.{Row}
use Rattle.wh_meaning.specs.Scalar.{Scalar, of_two}
use Rattle.wh_meaning.specs.Bag.{Bag, bag_of}
use Rattle.wh_meaning.specs.Query.{Call}
use Rattle.wh_scalar.specs.declared.fault.EvalFault.{EvalFault}
use Rattle.wh_scalar.specs.declared.fault.EvalFault.TheVariants.{NumberOutOfRange}
use Rattle.wh_aggregate.specs.Given.{IsFaultOf}
use Rattle.wh_maintenance.specs.Standing.{Groups, IsGroupsOf}
use Rattle.wh_group.specs.Moves.{Moves, added}
use Rattle.wh_group.specs.Settling.{befores, afters, pair, Settles}
use Rattle.wh_group.specs.Updates.{change_of, StandIn, IsUpdated, LeavesNone}
use Rattle.wh_group.specs.declared.moving.Side.TheVariants.{Comes, Goes}
use Rattle.wh_group.specs.declared.settling.Updated.{Updated}
use Rattle.wh_group.proofs.MoveLaws.{AreMoves, LacksOn, nothing, no_moves, rows_moved, rows_lack, all_came}
use Rattle.wh_group.proofs.MoveLaws.{all_went}
use Rattle.wh_group.proofs.ChangeLaws.{moved_all}
use Rattle.wh_group.proofs.UpdateLaws.{found_updated, found_none, goes_lack}

-- where a call hands on a fault and answers NumberOutOfRange, nothing was meant
pub none_meant : {A T : Type 0} (r : Result T EvalFault) (fault : EvalFault) (meant : Option A)
    → IsErrAnd r (λ f. f ≡ fault) → IsFaultOf fault meant → r ≡ Err NumberOutOfRange → meant ≡ None
none_meant (Ok x) fault meant gives is e = absurd gives
none_meant (Err f) fault meant gives is e =
    let number : fault ≡ NumberOutOfRange = cc in
    subst (λ x. IsFaultOf x meant) number is

module _ (by : List Scalar) (calls : List Call) (groups : Groups) (comes goes : List Row) (start : Moves)
    (start_is : start ≡ empty) where
  lacking : LacksOn by calls (bag_of comes) → LeavesNone by calls (change_of comes goes) groups
  lacking (inl none) = inl none
  lacking (inr w) = inr (inl w)

  pub comes_stop : {T : Type 0} (r : Result T EvalFault) (fault : EvalFault) → IsErrAnd r (λ f. f ≡ fault)
      → IsFaultOf fault (added Comes by calls start comes) → r ≡ Err NumberOutOfRange
      → LeavesNone by calls (change_of comes goes) groups
  comes_stop r fault gives is e =
      lacking (subst (λ c. LacksOn by calls c.comes) (all_came comes nothing refl)
      (rows_lack by calls Comes comes nothing start (no_moves by calls start start_is)
      (none_meant r fault (added Comes by calls start comes) gives is e)))

  module _ (m : Moves) (m_is : added Comes by calls start comes ≡ Some m) where
    came : AreMoves by calls (change_of comes []) m
    came = subst (λ c. AreMoves by calls c m) (all_came comes nothing refl)
        (rows_moved by calls Comes comes nothing start m (no_moves by calls start start_is) m_is)

    pub goes_stop : {T : Type 0} (r : Result T EvalFault) (fault : EvalFault) → IsErrAnd r (λ f. f ≡ fault)
        → IsFaultOf fault (added Goes by calls m goes) → r ≡ Err NumberOutOfRange → (b : Bag)
        → IsGroupsOf by calls b groups → StandIn (bag_of goes) b → LeavesNone by calls (change_of comes goes) groups
    goes_stop r fault gives is e b h among =
        absurd (goes_lack by calls b groups h goes among
        (subst (λ c. LacksOn by calls c.goes) (all_went goes (change_of comes []) refl)
        (rows_lack by calls Goes goes (change_of comes []) m came
        (none_meant r fault (added Goes by calls m goes) gives is e))))

    module _ (m' : Moves) (m'_is : added Goes by calls m goes ≡ Some m') where
      both_moved : AreMoves by calls (change_of comes goes) m'
      both_moved = subst (λ c. AreMoves by calls c m') (all_went goes (change_of comes []) refl)
          (rows_moved by calls Goes goes (change_of comes []) m m' came m'_is)

      pub settled_found : (r : Result Updated EvalFault) → Settles r calls groups (entries m')
          → IfOk r (IsUpdated by calls (change_of comes goes) groups)
      settled_found (Ok u) is = found_updated by calls (change_of comes goes) m' both_moved groups u is
      settled_found (Err fault) is = tt

      pub settled_stops : (r : Result Updated EvalFault) → Settles r calls groups (entries m')
          → r ≡ Err NumberOutOfRange → LeavesNone by calls (change_of comes goes) groups
      settled_stops (Ok u) is e = cc
      settled_stops (Err fault) is e =
          let number : fault ≡ NumberOutOfRange = cc in
          inr (inr (
            moved_all calls groups (entries m'),
            found_none by calls (change_of comes goes) m' both_moved groups
                (subst (λ x. IsFaultOf x
                (of_two pair (befores calls groups (entries m')) (afters calls groups (entries m'))))
                number is),
          ))
