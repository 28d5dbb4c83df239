-- The answers of pieces, side by side.
--     zip-append    what holds place by place of two pairs of lists holds of them side by side
--     joined-push   one piece more
--     joined_whole  what holds item by item in each piece holds in the whole list
use Rattle.std.proofs.Common.{◌≡◌, List, [], ◌∷◌, ◌++◌, ℕ, Option, Some, None, refl, sym, ap, subst, ◌∙◌, IfOk, append_assoc}
use Rattle.std.specs.Prelude.{Result, Ok, Err, option_map}
use Rattle.std.specs.Global.{Global}
use Rattle.std.specs.List.{AllZip, flat_map}
use Rattle.std.specs.declared.vec.Vec.{Vec}
use Rattle.std.proofs.lemmas.List.{append-nil}
use Rattle.std.proofs.lemmas.List.Concat.{flat_map-cons}
use Rattle.wh_workers.specs.Pieces.{PiecesOf}
use Rattle.wh_workers.specs.Joined.{joined_of}

pub zip-append : {A B : Type 0} (R : A → B → Type 0) (xs : List A) (ys : List B) (zs : List A) (ws : List B)
    → AllZip R xs ys → AllZip R zs ws → AllZip R (xs ++ zs) (ys ++ ws)
zip-append R [] [] zs ws one two = two
zip-append R [] (y ∷ ys) zs ws one two = absurd one
zip-append R (x ∷ xs) [] zs ws one two = absurd one
zip-append R (x ∷ xs) (y ∷ ys) zs ws one two = (one.0, zip-append R xs ys zs ws one.1 two)

-- what an image is of
mapped : {X Y : Type 0} (f : X → Y) (o : Option X) (y : Y) → option_map f o ≡ Some y → (x : X) × (o ≡ Some x) × (f x ≡ y)
mapped f None y is = absurd cc
mapped f (Some x) y is = (x, refl, cc)

pub joined-push : {T E : Type 0} (ps : List (Result (Vec T Global) E)) (v : Vec T Global) (done : List T)
    → joined_of ps ≡ Some done → joined_of (ps ++ Ok v ∷ []) ≡ Some (done ++ v.items)
joined-push {T = T} [] v done is =
    let none : ◌≡◌ {A = List T} [] done = cc in
    ap (λ (l : List T). Some l) (append-nil v.items) ∙ ap (λ (l : List T). Some (l ++ v.items)) none
joined-push {T = T} (Ok w ∷ ps) v done is =
    let got = mapped (λ (rest : List T). w.items ++ rest) (joined_of ps) done is in
    ap (option_map (λ (rest : List T). w.items ++ rest)) (joined-push ps v got.0 got.1)
    ∙ ap (λ (l : List T). Some l) (sym (append_assoc w.items got.0 v.items) ∙ ap (λ (l : List T). l ++ v.items) got.2)
joined-push (Err e ∷ ps) v done is = absurd cc

module _ {X T E : Type 0} (R : X → T → Type 0) where
  -- R holds of each item of a piece and its answer, if the piece has answers
  abbrev pub InPiece : List X → Result (Vec T Global) E → Type 0
  InPiece piece answered = IfOk answered (λ answers. AllZip R piece answers.items)

  joined_zip : (pieces : List (List X)) (ps : List (Result (Vec T Global) E)) (out : List T) → AllZip InPiece pieces ps
      → joined_of ps ≡ Some out → AllZip R (flat_map (λ piece. piece) pieces) out
  joined_zip [] [] out zip is =
      let none : ◌≡◌ {A = List T} [] out = cc in subst (AllZip R []) none tt
  joined_zip [] (p ∷ ps) out zip is = absurd zip
  joined_zip (piece ∷ pieces) [] out zip is = absurd zip
  joined_zip (piece ∷ pieces) (Err e ∷ ps) out zip is = absurd cc
  joined_zip (piece ∷ pieces) (Ok v ∷ ps) out zip is =
      let got = mapped (λ (rest : List T). v.items ++ rest) (joined_of ps) out is in
      subst (λ (l : List X). AllZip R l out) (sym (flat_map-cons (λ piece. piece) piece pieces))
      (subst (AllZip R (piece ++ flat_map (λ piece. piece) pieces)) got.2
      (zip-append R piece v.items (flat_map (λ piece. piece) pieces) got.0 zip.0 (joined_zip pieces ps got.0 zip.1 got.1)))

  pub joined_whole : (most : ℕ) (xs : List X) (ps : List (Result (Vec T Global) E)) (out : List T) → PiecesOf most xs InPiece ps
      → joined_of ps ≡ Some out → AllZip R xs out
  joined_whole most xs ps out cut is =
      subst (λ (l : List X). AllZip R l out) cut.whole (joined_zip cut.pieces ps out cut.answered is)
