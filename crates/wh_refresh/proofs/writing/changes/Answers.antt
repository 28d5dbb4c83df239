use Rattle.std.proofs.Common.{◌≡◌, ℕ, List, [], ◌∷◌, ◌++◌, map, length, refl, subst, sym, ap, ◌∙◌, arith}
use Rattle.std.specs.Vec.Iter.{into_iter_items}
use Rattle.std.specs.List.{flat_map}
use Rattle.std.proofs.lemmas.List.{append-nil, append_assoc}
use Rattle.wh_state.specs.Stored.{StoredObject}
use Rattle.wh_machine.specs.Refresh as machine
use Rattle.wh_record.specs.View.{change_of}
use Rattle.wh_refresh.specs.Objects.{stored_in}
use Rattle.wh_refresh.specs.Brought.{IsBrought, AreBrought, SaidSoFar}
use Rattle.wh_refresh.specs.Writing.{one_written}
use Rattle.wh_refresh.specs.declared.brought.Brought.{Brought}
use Rattle.wh_refresh.proofs.RefreshLemmas.{all_written}
use Rattle.wh_refresh.proofs.writing.changes.Goals as goal

-- where nothing is left to say, all is said
said : {X : Type 0} (stored : List StoredObject) (left : List Brought) (count : ℕ) (so_far : List X)
    (says : machine.Brought → List X) (bs : List machine.Brought) → length left ≡ count → count ≡ 0
    → SaidSoFar stored left so_far (flat_map says) bs → so_far ≡ flat_map says bs
said stored [] count so_far says bs sized none far = none_left far.rest far.are far.is
  where
    none_left : (rest : List machine.Brought) → AreBrought stored [] rest → so_far ++ flat_map says rest
        ≡ flat_map says bs
        → so_far ≡ flat_map says bs
    none_left [] are is = sym (append-nil so_far) ∙ is
    none_left (b ∷ rest) are is = absurd are
said stored (one ∷ left) count so_far says bs sized none far = absurd (grind arith)

-- one more is said
said_more : {X : Type 0} (stored : List StoredObject) (left later : List Brought) (one : Brought) (so_far new : List X)
    (says : machine.Brought → List X) (bs : List machine.Brought) → left ≡ one ∷ later
    → ((b : machine.Brought) → IsBrought stored one b → new ≡ so_far ++ says b)
    → SaidSoFar stored left so_far (flat_map says) bs → SaidSoFar stored later new (flat_map says) bs
said_more stored left later one so_far new says bs is more far =
    by_rest far.rest (subst (λ (l : List Brought). AreBrought stored l far.rest) is far.are) far.is
  where
    by_rest : (rest : List machine.Brought) → AreBrought stored (one ∷ later) rest
        → so_far ++ flat_map says rest ≡ flat_map says bs
        → SaidSoFar stored later new (flat_map says) bs
    by_rest [] are said = absurd are
    by_rest (b ∷ rest) are said = record {
      rest = rest;
      are = are.1;
      is = ap (λ (l : List _). l ++ flat_map says rest) (more b are.0)
          ∙ append_assoc so_far (says b) (flat_map says rest) ∙ said;
    }

pub returns-clause-written : goal.returns-clause-written
returns-clause-written c stamp bs are above =
    let stored = stored_in c.args.objects.now in
    said stored (into_iter_items c.loop-one.one-iterator) _ (map change_of c.loop-one.changes.items)
    (one_written stored c.args.moment) bs (sym c.loop-one.one-iterator.rest.ok.0) c.in-None.ensures.steps.0
    (c.loop-one.invariant.said bs are)
    ∙ sym (all_written stamp c.args.moment 0 bs stored stored above (λ later h. refl))

pub loop-one-preserved : goal.loop-one-preserved
loop-one-preserved c = record {
  said = λ bs are.
      let stored = stored_in c.args.objects.now in
      said_more stored (into_iter_items c.loop-one.one-iterator) (into_iter_items c.next.new.self) c.in-Some.one
      (map change_of c.loop-one.changes.items) (map change_of c.add_changes.new.changes.items)
      (one_written stored c.args.moment) bs c.in-Some.ensures.steps.0 c.in_ok-add_changes.ensures.written
      (c.loop-one.invariant.said bs are);
  understood = c.in_ok-add_changes.ensures.understood c.loop-one.invariant.understood;
}
