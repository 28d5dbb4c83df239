-- The walk over the touched groups.
--     IsSettling      what is found so far, and what is left
--     settling_begun, settling_step, settling_end, settling_fails
use Rattle.std.specs.Prelude.{◌≡◌, ◌⊎◌, List, [], ◌∷◌, ◌++◌, Option, Some, None, option_map}
use Rattle.std.proofs.Common.{refl, sym, ap, subst, ◌∙◌, inl, inr, append-nil, append_assoc}
use Rattle.std.specs.FinMap.{get}
use Rattle.wh_value.specs.Value.{Row}
use Rattle.wh_meaning.specs.Scalar.{of_two}
use Rattle.wh_meaning.specs.Query.{Call}
use Rattle.wh_maintenance.specs.Standing.{Groups}
use Rattle.wh_maintenance.specs.Entries.{GroupEntry}
use Rattle.wh_group.specs.Moves.{Move}
use Rattle.wh_group.specs.Settling.{now_at, shown_rows, appended, befores, afters, pair, Notes, IsEntered}
use Rattle.wh_group.specs.Settling.{AreChanges, IsSettled}
use Rattle.wh_group.specs.declared.settling.Updated.{Updated}

next_rows : (old new : List Row) (first rest : Option (List Row))
    → option_map (λ more. old ++ more) first ≡ Some new
    → option_map (λ more. old ++ more) (of_two appended first rest) ≡ option_map (λ more. new ++ more) rest
next_rows old new None rest e = cc
next_rows old new (Some a) None e = refl
next_rows old new (Some a) (Some b) e =
    let is : old ++ a ≡ new = cc in
    ap Some (sym (append_assoc old a b) ∙ ap (λ rows. rows ++ b) is)

none_first : (old : List Row) (first rest : Option (List Row)) → first ≡ None
    → option_map (λ more. old ++ more) (of_two appended first rest) ≡ None
none_first old None rest e = refl
none_first old (Some a) rest e = cc

either_none : (b a : Option (List Row)) → of_two pair b a ≡ None → (b ≡ None) ⊎ (a ≡ None)
either_none None a e = inl refl
either_none (Some b) None e = inr refl
either_none (Some b) (Some a) e = cc

first_none : (b a : Option (List Row)) → b ≡ None → of_two pair b a ≡ None
first_none None a e = refl
first_none (Some b) a e = cc

second_none : (b a : Option (List Row)) → a ≡ None → of_two pair b a ≡ None
second_none None a e = refl
second_none (Some b) None e = refl
second_none (Some b) (Some a) e = cc

module _ (calls : List Call) (groups : Groups) (all : List (Row × Move)) where
  pub record IsSettling (left : List (Row × Move)) (u : Updated) : Type 0 where
    pub goes : befores calls groups all ≡ option_map (λ more. u.goes.items ++ more) (befores calls groups left)
    pub comes : afters calls groups all ≡ option_map (λ more. u.comes.items ++ more) (afters calls groups left)
    pub changes : (xs : List GroupEntry) → AreChanges calls groups left xs
        → AreChanges calls groups all (u.entries.items ++ xs)

  all_left : (found : Option (List Row)) (old : List Row) → old ≡ [] → found ≡ option_map (λ more. old ++ more) found
  all_left None old e = refl
  all_left (Some rows) old e = ap (λ xs. Some (xs ++ rows)) (sym e)

  pub settling_begun : (u : Updated) → u.goes.items ≡ [] → u.comes.items ≡ [] → u.entries.items ≡ []
      → IsSettling all u
  settling_begun u g c x = record {
    goes = all_left (befores calls groups all) u.goes.items g;
    comes = all_left (afters calls groups all) u.comes.items c;
    changes = λ xs h. subst (λ es. AreChanges calls groups all (es ++ xs)) (sym x) h;
  }

  kept_as : (e : Row × Move) (left : List (Row × Move)) (xs : List GroupEntry) → now_at calls groups e ≡ get groups e.0
      → AreChanges calls groups left xs → AreChanges calls groups (e ∷ left) xs
  kept_as e left [] same h = (same, h)
  kept_as e left (x ∷ xs) same h = inl (same, h)

  noted_more : (e : Row × Move) (left : List (Row × Move)) (old new : List GroupEntry)
      → ((xs : List GroupEntry) → AreChanges calls groups (e ∷ left) xs → AreChanges calls groups all (old ++ xs))
      → Notes e.0 (get groups e.0) (now_at calls groups e) old new → (xs : List GroupEntry) → AreChanges calls groups left xs
      → AreChanges calls groups all (new ++ xs)
  noted_more e left old new so_far (inl same) xs h =
      subst (λ es. AreChanges calls groups all (es ++ xs)) (sym same.1) (so_far xs (kept_as e left xs same.0 h))
  noted_more e left old new so_far (inr other) xs h =
      let x : GroupEntry = record { key = e.0; group = now_at calls groups e } in
      subst (AreChanges calls groups all) (sym (ap (λ es. es ++ xs) other.1 ∙ append_assoc old (x ∷ []) xs))
      (so_far (x ∷ xs) (inr ((other.0, refl, refl), h)))

  module _ (left left' : List (Row × Move)) (e : Row × Move) (u : Updated) (next : left ≡ e ∷ left')
      (so_far : IsSettling left u) where
    pub settling_step : (u' : Updated) → IsEntered calls groups e u u' → IsSettling left' u'
    settling_step u' h = record {
      goes = so_far.goes ∙ ap (λ es. option_map (λ more. u.goes.items ++ more) (befores calls groups es)) next
          ∙ next_rows u.goes.items u'.goes.items (shown_rows calls e.0 (get groups e.0)) (befores calls groups left')
          h.goes;
      comes = so_far.comes ∙ ap (λ es. option_map (λ more. u.comes.items ++ more) (afters calls groups es)) next
          ∙ next_rows u.comes.items u'.comes.items (shown_rows calls e.0 (now_at calls groups e))
          (afters calls groups left') h.comes;
      changes = noted_more e left' u.entries.items u'.entries.items
          (λ xs. subst (λ es. AreChanges calls groups es xs → AreChanges calls groups all (u.entries.items ++ xs)) next
          (so_far.changes xs)) h.entered;
    }

    pub settling_fails : of_two pair (shown_rows calls e.0 (get groups e.0))
        (shown_rows calls e.0 (now_at calls groups e)) ≡ None
        → of_two pair (befores calls groups all) (afters calls groups all) ≡ None
    settling_fails none = elim (either_none _ _ none)
        as (λ _. of_two pair (befores calls groups all) (afters calls groups all) ≡ None) [
          | inl b ↦ first_none (befores calls groups all) (afters calls groups all) (so_far.goes
              ∙ ap (λ es. option_map (λ more. u.goes.items ++ more) (befores calls groups es)) next
              ∙ none_first u.goes.items (shown_rows calls e.0 (get groups e.0)) (befores calls groups left') b)
          | inr a ↦ second_none (befores calls groups all) (afters calls groups all) (so_far.comes
              ∙ ap (λ es. option_map (λ more. u.comes.items ++ more) (afters calls groups es)) next
              ∙ none_first u.comes.items (shown_rows calls e.0 (now_at calls groups e)) (afters calls groups left') a)
        ]

  pub settling_end : (left : List (Row × Move)) (u : Updated) → left ≡ [] → IsSettling left u
      → IsSettled calls groups all u
  settling_end left u none so_far = record {
    goes = so_far.goes ∙ ap (λ es. option_map (λ more. u.goes.items ++ more) (befores calls groups es)) none
        ∙ ap Some (append-nil u.goes.items);
    comes = so_far.comes ∙ ap (λ es. option_map (λ more. u.comes.items ++ more) (afters calls groups es)) none
        ∙ ap Some (append-nil u.comes.items);
    changes = subst (AreChanges calls groups all) (append-nil u.entries.items)
        (so_far.changes [] (subst (λ es. AreChanges calls groups es []) (sym none) tt));
  }
