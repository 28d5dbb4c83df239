pub mod KnownEffects
