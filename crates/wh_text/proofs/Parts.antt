-- Values with ` | ` between each two.
use Rattle.std.proofs.Common.{◌≡◌, ◌<◌, ◌++◌, List, [], ◌∷◌, length, map, drop, get_or, codes, ap, sym, ◌∙◌, arith}
use Rattle.std.specs.List.{flat_map}
use Rattle.std.proofs.lemmas.List.Folds.{flat_map-map}
use Rattle.wh_reply.specs.Reply.{parted}
use Rattle.wh_value.specs.Value.{literal}
use Rattle.wh_value.specs.View.{value_of}
use Rattle.wh_value.specs.declared.value.Value.{Value}

-- the first value, and each other one behind a separator
pub first_part : (values : List Value) (first : Value) → 0 < length values → first ≡ get_or values 0 first
    → parted (map literal (map value_of values)) ≡ literal (value_of first)
    ++ flat_map (λ v. codes " | " ++ literal (value_of v)) (drop 1 values)
first_part [] first some is = absurd (omega arith)
first_part (v ∷ vs) first some is =
    let apart : flat_map (λ p. codes " | " ++ p) (map literal (map value_of vs))
    ≡ flat_map (λ w. codes " | " ++ literal (value_of w)) vs
    = flat_map-map (λ p. codes " | " ++ p) literal (map value_of vs)
    ∙ flat_map-map (λ p. codes " | " ++ literal p) value_of vs in
    ap (λ rest. literal (value_of v) ++ rest) apart
    ∙ ap (λ x. literal (value_of x) ++ flat_map (λ w. codes " | " ++ literal (value_of w)) vs) (sym is)
