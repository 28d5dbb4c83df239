-- What a test says that came out true.
--     both_hold, together     two tests in one, and back
--     is-Equal                an ordering that is equal
use Rattle.std.proofs.Common.{◌≡◌, Bool, true, false, T, refl}
use Rattle.std.specs.Prelude.{◌&&◌}
use Rattle.std.specs.declared.cmp.Ordering.{Ordering}
use Rattle.std.specs.declared.cmp.Ordering.TheVariants.{Less, Equal, Greater}
use Rattle.std.specs.Ordering.{is_eq}

pub both_hold : (a b : Bool) → T (a && b) → T a × T b
both_hold true b h = (tt, h)
both_hold false b h = absurd h

pub together : (a b : Bool) → T a → T b → T (a && b)
together true b h k = k
together false b h k = absurd h

pub is-Equal : (r : Ordering) → is_eq r ≡ true → r ≡ Equal
is-Equal Less e = cc
is-Equal Equal e = refl
is-Equal Greater e = cc
