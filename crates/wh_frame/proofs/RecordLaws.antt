-- What the bytes of a record fix.
--     same_record     its payload, and what is behind it
--     gate_of         a record begins with an open gate
use Rattle.std.proofs.Common.{◌≡◌, ℕ, ◌<◌, ◌^◌, List, ◌∷◌, ◌++◌, length, take, drop, refl, sym, ◌∙◌, ap, append_assoc}
use Rattle.std.proofs.lemmas.List.{take_at, drop_at}
use Rattle.std.proofs.lemmas.Nat.{from_be_bytes-to_be_bytes_8}
use Rattle.std.specs.Int.{w64, to_be_bytes, from_be_bytes}
use Rattle.wh_frame.specs.File.{record_of}

-- two records at one place are the same, and so is what follows
pub same_record : (p q more rest : List ℕ) → length p < 2 ^ 64 → length q < 2 ^ 64
    → record_of p ++ more ≡ record_of q ++ rest
    → (p ≡ q) × (more ≡ rest)
unfolding record_of
same_record p q more rest p_short q_short same =
    let p_head = 1 ∷ to_be_bytes w64 (length p) in
    let q_head = 1 ∷ to_be_bytes w64 (length q) in
    let regrouped : p_head ++ (p ++ more) ≡ q_head ++ (q ++ rest) =
    sym (append_assoc p_head p more) ∙ same ∙ append_assoc q_head q rest in
    let heads : to_be_bytes w64 (length p) ≡ to_be_bytes w64 (length q) =
    ap (λ (l : List ℕ). take 8 (drop 1 l)) regrouped in
    let sizes : length p ≡ length q =
    sym (from_be_bytes-to_be_bytes_8 (length p) p_short) ∙ ap (from_be_bytes w64) heads
    ∙ from_be_bytes-to_be_bytes_8 (length q) q_short in
    let behind : p ++ more ≡ q ++ rest = ap (λ (l : List ℕ). drop 9 l) regrouped in (
      sym (take_at p more (length p) refl) ∙ ap (λ (l : List ℕ). take (length p) l) behind
          ∙ take_at q rest (length p) (sym sizes),
      sym (drop_at p more (length p) refl) ∙ ap (λ (l : List ℕ). drop (length p) l) behind
          ∙ drop_at q rest (length p) (sym sizes),
    )

pub gate_of : (payload rest : List ℕ) (gate : ℕ) (tail : List ℕ) → gate ∷ tail ≡ record_of payload ++ rest → gate ≡ 1
unfolding record_of
gate_of payload rest gate tail is = cc
