-- Entries put into others, one after the other.
--     put_parts      an entry stands behind those below it, and takes the place of one with its number
--     puts_alone     entries that rise, put into no others
--     merged_on      a later entry more, where the earlier ones below it are done with
use Rattle.std.proofs.Common.{◌≡◌, ℕ, ◌<◌, cond, Bool, true, false, T, List, [], ◌∷◌, ◌++◌, nat_eq, nat_lt}
use Rattle.std.proofs.Common.{refl, sym, ap, ◌∙◌, append_assoc, arith}
use Rattle.std.specs.declared.cmp.Ordering.{Ordering}
use Rattle.std.specs.declared.cmp.Ordering.TheVariants.{Less, Equal, Greater}
use Rattle.std.specs.Ordering.{nat_cmp, is_lt, MatchOrdering}
use Rattle.std.specs.Cmp.{nat_cmp_is}
use Rattle.std.specs.FinMap.{put, is_sorted}
use Rattle.std.specs.FinMap.Entries.{below_all, by_order}
use Rattle.std.proofs.lemmas.Cmp.{ranked}
use Rattle.std.proofs.lemmas.Bool.{ltb-true}
use Rattle.std.proofs.lemmas.Bool.Decides.{nat_tests}
use Rattle.wh_version.specs.RowEdits.{puts, below, not_below, other_than}
use Rattle.wh_value.proofs.TestLaws.{both_hold}
use Rattle.wh_version.proofs.RisingEdits.{is_below, above_all, head_below, rest_rises}

module _ {X : Type 0} where
  pub put_parts : (k : ℕ) (v : X) (es : List (ℕ × X))
      → put nat_cmp k v es ≡ below k es ++ (k, v) ∷ other_than k (not_below k es)
  put_parts k v [] = refl
  put_parts k v (e ∷ es) = by_rank (put_parts k v es) (nat_cmp k e.0) (ranked k e.0 (nat_cmp k e.0) refl)
    where
      by_rank : put nat_cmp k v es ≡ below k es ++ (k, v) ∷ other_than k (not_below k es)
          → (r : Ordering) → MatchOrdering r (k < e.0) (k ≡ e.0) (e.0 < k)
          → by_order r ((k, v) ∷ e ∷ es) ((e.0, v) ∷ es) (e ∷ put nat_cmp k v es)
          ≡ below k (e ∷ es) ++ (k, v) ∷ other_than k (not_below k (e ∷ es))
      by_rank rest Less here =
          let low : nat_lt e.0 k ≡ false = grind (arith, nat_tests) in
          let other : nat_eq e.0 k ≡ false = grind (arith, nat_tests) in
          ap (λ (b : Bool). (k, v) ∷ cond b es (e ∷ es)) (sym other)
          ∙ ap (λ (b : Bool). cond b (e ∷ below k es) [] ++ (k, v) ∷ other_than k (cond b (not_below k es) (e ∷ es)))
          (sym low)
      by_rank rest Equal here =
          let low : nat_lt e.0 k ≡ false = grind (arith, nat_tests) in
          let same : nat_eq e.0 k ≡ true = grind (arith, nat_tests) in
          ap (λ n. (n, v) ∷ es) (sym here)
          ∙ ap (λ (b : Bool). (k, v) ∷ cond b es (e ∷ es)) (sym same)
          ∙ ap (λ (b : Bool). cond b (e ∷ below k es) [] ++ (k, v) ∷ other_than k (cond b (not_below k es) (e ∷ es)))
          (sym low)
      by_rank rest Greater here =
          let low : nat_lt e.0 k ≡ true = grind (arith, nat_tests) in
          ap (e ∷◌) rest
          ∙ ap (λ (b : Bool). cond b (e ∷ below k es) [] ++ (k, v) ∷ other_than k (cond b (not_below k es) (e ∷ es)))
          (sym low)

  puts_after : (f : ℕ × X) (es ls : List (ℕ × X)) → T (below_all nat_cmp f.0 ls) → puts (f ∷ es) ls ≡ f ∷ puts es ls
  puts_after f es [] above = refl
  puts_after f es (l ∷ ls) above =
      let two = both_hold (is_lt (nat_cmp f.0 l.0)) (below_all nat_cmp f.0 ls) above in
      let order : Greater ≡ nat_cmp l.0 f.0 = nat_cmp_is l.0 f.0 Greater (is_below f.0 l.0 two.0) in
      ap (λ r. puts (by_order r (l ∷ f ∷ es) ((f.0, l.1) ∷ es) (f ∷ put nat_cmp l.0 l.1 es)) ls) (sym order)
      ∙ puts_after f (put nat_cmp l.0 l.1 es) ls two.1

  -- entries that rise, put into no others
  pub puts_alone : (es : List (ℕ × X)) → is_sorted nat_cmp es ≡ true → puts [] es ≡ es
  puts_alone [] rises = refl
  puts_alone (e ∷ es) rises =
      puts_after e [] es (head_below e es rises) ∙ ap (e ∷◌) (puts_alone es (rest_rises e es rises))

  puts_behind : (l : ℕ × X) (es rest ls : List (ℕ × X)) → T (below_all nat_cmp l.0 ls)
      → puts (below l.0 es ++ l ∷ rest) ls ≡ below l.0 es ++ l ∷ puts rest ls
  puts_behind l [] rest ls above = puts_after l rest ls above
  puts_behind l (e ∷ es) rest ls above = by_test (puts_behind l es rest ls above) (nat_lt e.0 l.0) refl
    where
      by_test : puts (below l.0 es ++ l ∷ rest) ls ≡ below l.0 es ++ l ∷ puts rest ls → (b : Bool) → nat_lt e.0 l.0 ≡ b
          → puts (cond b (e ∷ below l.0 es) [] ++ l ∷ rest) ls ≡ cond b (e ∷ below l.0 es) [] ++ l ∷ puts rest ls
      by_test others true is =
          let here : e.0 < l.0 = ltb-true e.0 l.0 is in
          puts_after e (below l.0 es ++ l ∷ rest) ls (above_all e.0 l.0 ls (omega arith) above)
          ∙ ap (e ∷◌) others
      by_test others false is = puts_after l rest ls above

  pub merged_on : (l : ℕ × X) (ls es es' front front' all : List (ℕ × X)) → is_sorted nat_cmp (l ∷ ls) ≡ true
      → front' ≡ front ++ below l.0 es ++ l ∷ [] → es' ≡ other_than l.0 (not_below l.0 es)
      → front ++ puts es (l ∷ ls) ≡ all → front' ++ puts es' ls ≡ all
  merged_on l ls es es' front front' all rises done left so_far =
      let low : List (ℕ × X) = below l.0 es in
      let rest : List (ℕ × X) = other_than l.0 (not_below l.0 es) in
      (λ i. done i ++ puts (left i) ls)
      ∙ append_assoc (front ++ low) (l ∷ []) (puts rest ls)
      ∙ append_assoc front low (l ∷ puts rest ls)
      ∙ ap (λ x. front ++ x) (sym (puts_behind l es rest ls (head_below l ls rises))
      ∙ ap (λ x. puts x ls) (sym (put_parts l.0 l.1 es)))
      ∙ so_far
