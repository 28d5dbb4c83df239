-- What is kept is what its places spell.
--     hit                  what is recalled is the partition at its place
--     keeps-promoted       what a hit makes of the cache
--     keeps-put            and a partition that was read
--     keeps-passed         a partition that was read behind the reach
--     keeps-none           and an error
--     stays_beside         what is kept stays right where the file changes behind it
use Rattle.std.proofs.Common.{◌≡◌, ℕ, ◌+◌, ◌-◌, ◌≤◌, ◌<◌, Bool, true, false, ◌&&◌, ◌⊎◌, List, take, drop, nat_eq, vec_len}
use Rattle.std.proofs.Common.{Option, Some, Result, Ok, Err, Contains, refl, sym, ap, subst, ◌∙◌, inl, inr, arith}
use Rattle.std.proofs.lemmas.Bool.{eqb-true}
use Rattle.std.proofs.lemmas.List.{drop-take, take-take}
use Rattle.std.specs.Arc.{arc_value}
use Rattle.lru.specs.LruCache.{LruCache, lru_cache, promoted, put_entries}
use Rattle.lru.proofs.CallerLemmas.{Contains-lookup, Contains-promoted, Contains-put_entries}
use Rattle.wh_world.specs.Bytes.{part_at}
use Rattle.wh_frame.specs.Partition.{Partition}
use Rattle.wh_part.specs.declared.meta.PartMeta.{PartMeta}
use Rattle.wh_fetch.specs.declared.fault.FetchFault.{FetchFault}
use Rattle.wh_fetch.specs.declared.kept.Kept.{Kept}
use Rattle.wh_fetch.specs.Place.{spelled, describes, IsPartAt}
use Rattle.wh_fetch.specs.Cache.{IsKeptAs, Agrees, IsSpelledIn, Keeps, StaysBeside}
use Rattle.wh_fetch.proofs.OrderLemmas.{kept-promoted, kept-put}

both : (a b : Bool) → (a && b) ≡ true → (a ≡ true) × (b ≡ true)
both true b e = (refl, e)
both false b e = absurd cc

same_place : (bytes : List ℕ) (width at len : ℕ) (k : ℕ) (e : Kept) → at ≡ k → e.length ≡ len → e.width ≡ width
    → IsSpelledIn bytes (k, e) → spelled width (part_at at len bytes) ≡ Some (arc_value e.part)
same_place bytes width at len k e one two three h = rw (one, sym two, sym three) h

pub hit : (told : Option (List ℕ)) (entries : List (ℕ × Kept)) (meta : PartMeta) (p : Partition) → Agrees told entries
    → IsKeptAs meta entries p → IsPartAt told meta p
hit told entries meta p agrees kept =
    let e = kept.entry in
    let at = Contains-lookup (nat_eq meta.at) entries e kept.found in
    let one = both (nat_eq e.length meta.length) _ kept.fit in
    let two = both (nat_eq e.width (vec_len meta.columns)) _ one.1 in
    record {
      content = λ bytes is. same_place bytes (vec_len meta.columns) meta.at meta.length at.0 e
          (eqb-true meta.at at.0 at.2) (eqb-true e.length meta.length one.0)
          (eqb-true e.width (vec_len meta.columns) two.0) (agrees bytes is (at.0, e) at.1)
          ∙ ap Some (sym kept.same);
      described = subst (λ (q : Partition). describes meta q ≡ true) (sym kept.same) two.1;
    }

-- what is in the cache after a put and wasn't there before is what was put
put_place : (cache : LruCache ℕ Kept) (at : ℕ) (e : ℕ × Kept)
    → (e.0 ≡ at) ⊎ ((w : Kept) × Contains cache.entries (e.0, w) × (nat_eq at e.0 ≡ true)) → at ≡ e.0
put_place cache at e (inl same) = sym same
put_place cache at e (inr found) = eqb-true at e.0 found.2

put_is : (cache : LruCache ℕ Kept) (at : ℕ) (kept : Kept) (e : ℕ × Kept)
    → (e.1 ≡ kept) × ((e.0 ≡ at) ⊎ ((w : Kept) × Contains cache.entries (e.0, w) × (nat_eq at e.0 ≡ true)))
    → ◌≡◌ {A = ℕ × Kept} (at, kept) e
put_is cache at kept e new =
    ap (λ (n : ℕ). (n, kept)) (put_place cache at e new.1) ∙ ap (λ (k : Kept). (e.0, k)) (sym new.0)

-- what holds of each that was there and of the one that is put holds of all
each-put : (P : ℕ × Kept → Type 0) (cache : LruCache ℕ Kept) (at : ℕ) (kept : Kept)
    → ((e : ℕ × Kept) → Contains cache.entries e → P e) → P (at, kept)
    → (e : ℕ × Kept) → Contains (put_entries nat_eq cache at kept) e → P e
each-put P cache at kept old fresh e c =
    elim (Contains-put_entries nat_eq cache at kept e c) [
      | inl was ↦ old e was
      | inr new ↦ subst P (put_is cache at kept e new) fresh
    ]

pub keeps-promoted : {A : Type 0} (told : Option (List ℕ)) (reach : ℕ) (old new : LruCache ℕ Kept) (meta : PartMeta) (p : Partition)
    (given : A) → IsKeptAs meta old.entries p → new ≡ lru_cache (promoted (nat_eq meta.at) old.entries) old.cap
    → Keeps told reach old new meta (Ok given)
keeps-promoted told reach old new meta p given kept is =
    let among = Contains-promoted (nat_eq meta.at) old.entries in
    rw is (record {
      right = λ agrees bytes told e c. agrees bytes told e (among e c);
      kept = λ front. kept-promoted meta.at old.entries kept.entry kept.found;
      kept_err = tt;
      within = λ within e c. within e (among e c);
    })

pub keeps-put : {A : Type 0} (told : Option (List ℕ)) (reach : ℕ) (old new : LruCache ℕ Kept) (meta : PartMeta) (kept : Kept)
    (p : Partition) (given : A) → IsPartAt told meta p → kept.length ≡ meta.length → kept.width ≡ vec_len meta.columns
    → arc_value kept.part ≡ p → old.cap ≡ 256 → meta.at + meta.length ≤ reach → new ≡ lru_cache (put_entries nat_eq old meta.at kept) old.cap
    → Keeps told reach old new meta (Ok given)
keeps-put told reach old new meta kept p given here len width part cap front is =
    rw is (record {
      right = λ agrees bytes told. each-put (IsSpelledIn bytes) old meta.at kept (agrees bytes told)
          (rw (len, width, part) (here.content bytes told));
      kept = λ _. kept-put old meta.at kept cap;
      kept_err = tt;
      within = λ within. each-put (λ e. e.0 + e.1.length ≤ reach) old meta.at kept within (rw len front);
    })

pub keeps-passed : {A : Type 0} (told : Option (List ℕ)) (reach : ℕ) (cache : LruCache ℕ Kept) (meta : PartMeta)
    (given : A) → reach < meta.at + meta.length → Keeps told reach cache cache meta (Ok given)
keeps-passed told reach cache meta given behind = record {
  right = λ right. right;
  kept = λ front. absurd (omega (arith, behind, front));
  kept_err = tt;
  within = λ within. within;
}

pub keeps-none : {A : Type 0} (told : Option (List ℕ)) (reach : ℕ) (old new : LruCache ℕ Kept) (meta : PartMeta)
    (fault : FetchFault) (result : Result A FetchFault) → result ≡ Err fault → new ≡ old
    → Keeps told reach old new meta result
keeps-none told reach old new meta fault result failed is =
    rw (is, failed) (record {
      right = λ right. right;
      kept = tt;
      kept_err = refl;
      within = λ within. within;
    })

part_of_front : (n at len : ℕ) (bytes : List ℕ) → at + len ≤ n → part_at at len (take n bytes) ≡ part_at at len bytes
part_of_front n at len bytes fits =
    let whole : n ≡ at + (n - at) = omega arith in
    ap (λ (k : ℕ). part_at at len (take k bytes)) whole
    ∙ ap (take len) (drop-take at (n - at) bytes)
    ∙ take-take len (n - at) (drop at bytes) (omega arith)

pub stays_beside : StaysBeside
stays_beside n old new entries within same agrees bytes is e c =
    let was = agrees old refl e c in
    let now : new ≡ bytes = cc in
    let front : part_at e.0 e.1.length new ≡ part_at e.0 e.1.length old =
    sym (part_of_front n e.0 e.1.length new (within e c)) ∙ ap (part_at e.0 e.1.length) same
    ∙ part_of_front n e.0 e.1.length old (within e c) in
    subst (λ b. IsSpelledIn b e) now (ap (spelled e.1.width) front ∙ was)
