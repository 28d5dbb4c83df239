-- The index of ids by names.
--     own_id            the id of a name that stands last
--     updated           what a change at one name leaves
--     indexed_more      with one more object
--     indexed_fewer     without the last one
use Rattle.std.proofs.Common.{◌≡◌, ℕ, ◌+◌, Bool, true, false, cond, List, [], ◌∷◌, ◌++◌, length, Option, Some}
use Rattle.std.proofs.Common.{option_map, bytes_eq, refl, sym, ap, subst, ◌∙◌}
use Rattle.std.specs.declared.vec.Vec.{Vec}
use Rattle.std.specs.Cmp.Lexicographic.{bytes_decides, nat_list_eq_equiv}
use Rattle.std.specs.Map.{lookup, IsKeyTest, AreApart, KeepsOthers}
use Rattle.indexmap.specs.IndexMap.{IndexMap, UpdatesBy}
use Rattle.wh_catalog.specs.Names.{last_place, last_id, id_at}
use Rattle.wh_catalog.proofs.Names.{more_names}

others : {K X : Type 0} (eq : K → K → Bool) (test : K → Bool) (old new : List (K × X)) → KeepsOthers eq test old new
    → (other : K → Bool) → IsKeyTest eq other → AreApart test other → lookup other new ≡ lookup other old
unfolding KeepsOthers
others eq test old new h = h

apart : (name other key : List ℕ) → bytes_eq name other ≡ false → bytes_eq name key ≡ true → bytes_eq other key ≡ false
apart name other key n y = nat_list_eq_equiv.symm other key ∙ sym (nat_list_eq_equiv.congr name key other y) ∙ n

module _ (name : List ℕ) (ns : List (List ℕ)) where
  more_ids : (other : List ℕ)
      → last_id other (ns ++ name ∷ []) ≡ cond (bytes_eq name other) (Some (length ns + 1)) (last_id other ns)
  more_ids other = ap (option_map (λ place. place + 1)) (more_names other ns name) ∙ by (bytes_eq name other)
    where
      by : (b : Bool)
          → option_map (λ place. place + 1) (cond b (Some (length ns)) (last_place other ns))
          ≡ cond b (Some (length ns + 1)) (last_id other ns)
      by true = refl
      by false = refl

  pub own_id : last_id name (ns ++ name ∷ []) ≡ Some (length ns + 1)
  own_id = more_ids name ∙ ap (λ b. cond b (Some (length ns + 1)) (last_id name ns)) (nat_list_eq_equiv.refl name)

module _ {A S : Type 0} (m n : IndexMap (Vec ℕ A) ℕ S) (name : List ℕ) where
  pub updated : (id : Option ℕ) → UpdatesBy (λ x y. bytes_eq x.items y.items) (λ key. bytes_eq name key.items) m n id
      → (other : List ℕ) → id_at n other ≡ cond (bytes_eq name other) id (id_at m other)
  updated id h other = by (bytes_eq name other) refl
    where
      by : (b : Bool) → bytes_eq name other ≡ b → id_at n other ≡ cond b id (id_at m other)
      by true e = subst (λ l. id_at n l ≡ id) ((bytes_decides name other).0 e) h.1
      by false e =
          others _ _ _ _ h.3 _ (λ x y. nat_list_eq_equiv.congr other x.items y.items) (λ k. apart name other k.items e)

  module _ (ns : List (List ℕ)) where
    pub indexed_more : (id : ℕ) → id ≡ length ns + 1 → ((other : List ℕ) → id_at m other ≡ last_id other ns)
        → ((other : List ℕ) → id_at n other ≡ cond (bytes_eq name other) (Some id) (id_at m other))
        → (other : List ℕ) → id_at n other ≡ last_id other (ns ++ name ∷ [])
    indexed_more id is was given other =
        given other
        ∙ ap (cond (bytes_eq name other) (Some id)) (was other)
        ∙ ap (λ i. cond (bytes_eq name other) (Some i) (last_id other ns)) is
        ∙ sym (more_ids name ns other)

    pub indexed_fewer : ((other : List ℕ) → id_at m other ≡ last_id other (ns ++ name ∷ []))
        → ((other : List ℕ) → id_at n other ≡ cond (bytes_eq name other) (last_id name ns) (id_at m other))
        → (other : List ℕ) → id_at n other ≡ last_id other ns
    indexed_fewer was given other = given other ∙ ap (cond (bytes_eq name other) (last_id name ns))
        (was other ∙ more_ids name ns other) ∙ by (bytes_eq name other) refl
      where
        by : (b : Bool) → bytes_eq name other ≡ b
            → cond b (last_id name ns) (cond b (Some (length ns + 1)) (last_id other ns)) ≡ last_id other ns
        by true e = ap (λ l. last_id l ns) ((bytes_decides name other).0 e)
        by false e = refl
