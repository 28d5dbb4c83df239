-- Partitions in memory in front of those of another fetch.
--     Covers          they have it, or the fetch below covers it
--     contents_of     what they have, or else what stands below
--     GoesOn          a later state: the same partitions in front, and a later state of the fetch below
--     goes_none, goes_on, still_covers, same_contents    its laws, where the fetch below has them
use Rattle.std.proofs.Common.{◌≡◌, ◌⊎◌, inl, inr, Bool, cond, Option, Some, None, IsSome, refl, sym, ap, subst, ◌∙◌}
use Rattle.wh_frame.specs.Partition.{Partition}
use Rattle.wh_part.specs.declared.meta.PartMeta.{PartMeta}
use Rattle.wh_fetch.specs.declared.fetch.Fetch.{Ghosts}
use Rattle.wh_fetch.specs.declared.mem_fetch.MemFetch.{MemFetch}
use Rattle.wh_fetch.specs.declared.overlay.Overlay.{Overlay}
use Rattle.wh_fetch.specs.MemFetch.{held, or_else}

module _ {F : Type 0} (f : Ghosts F) where
  abbrev pub Covers : Overlay F → PartMeta → Type 0
  Covers over meta = IsSome (held over.held.now meta.id) ⊎ f.covers over.below.now meta

  abbrev pub contents_of : Overlay F → PartMeta → Option Partition
  contents_of over meta = or_else (held over.held.now meta.id) (f.contents over.below.now meta)

  pub record GoesOn (first last : Overlay F) : Type 0 where
    pub held : last.held.now ≡ first.held.now
    pub below : f.stays first.below.now last.below.now
    pub same_below : last.below.ghost_name ≡ first.below.ghost_name
    pub same_asked : last.asked.ghost_name ≡ first.asked.ghost_name

  -- as the fetch below goes on
  pub goes_none : ((fetch : F) → f.stays fetch fetch) → (over : Overlay F) → GoesOn over over
  goes_none so over = record { held = refl; below = so over.below.now; same_below = refl; same_asked = refl }

  pub goes_on : ((first then last : F) → f.stays first then → f.stays then last → f.stays first last)
      → (first then last : Overlay F) → GoesOn first then → GoesOn then last → GoesOn first last
  goes_on on first then last one two = record {
    held = two.held ∙ one.held;
    below = on first.below.now then.below.now last.below.now one.below two.below;
    same_below = two.same_below ∙ one.same_below;
    same_asked = two.same_asked ∙ one.same_asked;
  }

  pub still_covers : ((first last : F) (meta : PartMeta) → f.stays first last → f.covers first meta
      → f.covers last meta)
      → (first last : Overlay F) (meta : PartMeta) → GoesOn first last → Covers first meta → Covers last meta
  still_covers on first last meta goes (inl here) =
      inl (subst (λ (m : MemFetch). IsSome (held m meta.id)) (sym goes.held) here)
  still_covers on first last meta goes (inr below) =
      inr (on first.below.now last.below.now meta goes.below below)

  pub same_contents : ((first last : F) (meta : PartMeta) → f.stays first last → f.covers first meta
      → f.contents last meta ≡ f.contents first meta)
      → (first last : Overlay F) (meta : PartMeta) → GoesOn first last → Covers first meta
      → contents_of last meta ≡ contents_of first meta
  same_contents on first last meta goes (inl here) =
      ap (λ (m : MemFetch). or_else (held m meta.id) (f.contents last.below.now meta)) goes.held
      ∙ in_front (held first.held.now meta.id) here (f.contents last.below.now meta) (f.contents first.below.now meta)
    where
      in_front : (front : Option Partition) → IsSome front → (a b : Option Partition)
          → or_else front a ≡ or_else front b
      in_front None here a b = ap (λ (some : Bool). cond some b a) here
      in_front (Some p) here a b = refl
  same_contents on first last meta goes (inr below) =
      ap (λ (m : MemFetch). or_else (held m meta.id) (f.contents last.below.now meta)) goes.held
      ∙ ap (or_else (held first.held.now meta.id)) (on first.below.now last.below.now meta goes.below below)
