-- What is written piece by piece.
--     writes_none, writes_both, writes_more     nothing; two pieces; more of one piece
--     writes_front                              what is written so far
use Rattle.std.proofs.Common.{◌≡◌, ℕ, ◌+◌, ◌-◌, List, ◌++◌, length, take, drop, refl, ap, sym, ◌∙◌, subst, arith, []}
use Rattle.std.proofs.Common.{append-nil, append_assoc, Option, Some, None}
use Rattle.std.specs.Prelude.{option_map}
use Rattle.std.proofs.Math.Seq.{take-add}
use Rattle.std.proofs.lemmas.List.{take-append-drop}
use Rattle.std.proofs.lemmas.Grind.{common_steps}
use Rattle.wh_shell.specs.Writing.{Writes, WritesFront}

-- nothing was written
pub writes_none : (held : Option (List ℕ)) → Writes [] held held
writes_none None = refl
writes_none (Some bytes) = ap Some (sym (append-nil bytes))

-- two pieces are written one behind the other
pub writes_both : (first second : List ℕ) (a b c : Option (List ℕ)) → Writes first a b → Writes second b c
    → Writes (first ++ second) a c
writes_both first second None b c one two = two ∙ ap (option_map (λ held. held ++ second)) one
writes_both first second (Some held) b c one two =
    two ∙ ap (option_map (λ x. x ++ second)) one ∙ ap Some (append_assoc held first second)

-- a slice from a place on is the rest
rest_whole : (piece : List ℕ) (at : ℕ) → take (length piece - at) (drop at piece) ≡ drop at piece
rest_whole piece at = grind (arith, common_steps)

-- n more bytes of a piece are written behind its first ones
pub writes_more : (piece : List ℕ) (at n : ℕ) (a b c : Option (List ℕ)) → Writes (take at piece) a b →
    Writes (take n (take (length piece - at) (drop at piece))) b c → Writes (take (at + n) piece) a c
writes_more piece at n a b c one two =
    let parts : take at piece ++ take n (take (length piece - at) (drop at piece)) ≡ take (at + n) piece =
    ap (λ rest. take at piece ++ take n rest) (rest_whole piece at) ∙ sym (take-add at n piece) in
    subst (λ (x : List ℕ). Writes x a c) parts
    (writes_both (take at piece) (take n (take (length piece - at) (drop at piece))) a b c one two)

-- what is written so far is a front
pub writes_front : (piece : List ℕ) (at : ℕ) (a b : Option (List ℕ)) → Writes (take at piece) a b
    → WritesFront piece a b
writes_front piece at a b so_far =
    record { front = take at piece; rest = drop at piece; parts = take-append-drop at piece; written = so_far }
