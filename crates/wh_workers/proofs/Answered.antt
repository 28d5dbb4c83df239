-- From the calls of a function to what its answers mean.
--     answered_as  of each item of a list, as `map_parts` has it
--     pieces_as    of each piece of a list, as `map_pieces` has it
use Rattle.std.proofs.Common.{ℕ, List, [], ◌∷◌, subst}
use Rattle.std.specs.List.{AllZip}
use Rattle.std.specs.Fn.{Shared, FnReturnsAt}
use Rattle.wh_workers.specs.Pieces.{PiecesOf}
use denote.Ref.{Bor}

pub zip_as : {A B : Type 0} (R S : A → B → Type 0) → ((x : A) (y : B) → R x y → S x y) → (xs : List A) (ys : List B)
    → AllZip R xs ys → AllZip S xs ys
zip_as R S turn [] [] zip = zip
zip_as R S turn [] (y ∷ ys) zip = absurd zip
zip_as R S turn (x ∷ xs) [] zip = absurd zip
zip_as R S turn (x ∷ xs) (y ∷ ys) zip = (turn x y zip.0, zip_as R S turn xs ys zip.1)

-- what each call of `f` at a view of an item answered
pub answered_as : {F A X T : Type 0} (view : A → X) (g : Shared F (Bor X × Unit {0}) T) (f : F) (xs : List A) (answers : List T)
    → AllZip (λ x answer. FnReturnsAt g f (view x) answer) xs answers → (S : X → T → Type 0)
    → ((x : Bor X) (answer : T) → g.post f (x, tt) answer → S x.now answer) → AllZip (λ x answer. S (view x) answer) xs answers
answered_as view g f xs answers zip S turn =
    zip_as (λ x answer. FnReturnsAt g f (view x) answer) (λ x answer. S (view x) answer)
    (λ x answer at. subst (λ v. S v answer) at.shows (turn at.shown answer at.says.met)) xs answers zip

-- the same of pieces
pub pieces_as : {F X T : Type 0} (g : Shared F (Bor (List X) × Unit {0}) T) (f : F) (most : ℕ) (xs : List X) (answers : List T)
    → PiecesOf most xs (λ piece answer. FnReturnsAt g f piece answer) answers → (S : List X → T → Type 0)
    → ((piece : Bor (List X)) (answer : T) → g.post f (piece, tt) answer → S piece.now answer) → PiecesOf most xs S answers
pieces_as g f most xs answers cut S turn = record {
  pieces = cut.pieces;
  whole = cut.whole;
  few = cut.few;
  answered = answered_as (λ piece. piece) g f cut.pieces answers cut.answered S turn;
}
