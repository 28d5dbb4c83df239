-- The bytes of a file fix its records.
use Rattle.std.proofs.Common.{◌≡◌, ◌≢◌, ℕ, ◌^◌, ◌<◌, List, [], ◌∷◌, ◌++◌, length, refl, sym, ap, ◌∙◌, append_assoc}
use Rattle.std.specs.List.{flat_map, AllByRecursion}
use Rattle.std.proofs.lemmas.List.{append_cancel_left}
use Rattle.std.proofs.lemmas.List.Concat.{flat_map-cons}
use Rattle.wh_frame.specs.File.{header, record_of, records_of}
use Rattle.wh_frame.proofs.RecordLaws.{same_record, gate_of}
use Rattle.wh_record.specs.Laws.{FileFixesPayloads}

record_split : (p : List ℕ) (ps : List (List ℕ)) (x : List ℕ)
    → flat_map record_of (p ∷ ps) ++ x ≡ record_of p ++ (flat_map record_of ps ++ x)
record_split p ps x = ap (λ (l : List ℕ). l ++ x) (flat_map-cons record_of p ps)
    ∙ append_assoc (record_of p) (flat_map record_of ps) x

same_records : (ps qs : List (List ℕ)) (g h : ℕ) (x y : List ℕ) → AllByRecursion (λ payload. length payload < 2 ^ 64) ps
    → AllByRecursion (λ payload. length payload < 2 ^ 64) qs → g ≢ 1 → h ≢ 1
    → flat_map record_of ps ++ g ∷ x ≡ flat_map record_of qs ++ h ∷ y
    → ps ≡ qs
same_records [] [] g h x y sp sq cg ch same = refl
same_records [] (q ∷ qs) g h x y sp sq cg ch same =
    absurd (cg (gate_of q (flat_map record_of qs ++ h ∷ y) g x (same ∙ record_split q qs (h ∷ y))))
same_records (p ∷ ps) [] g h x y sp sq cg ch same =
    absurd (ch (gate_of p (flat_map record_of ps ++ g ∷ x) h y (sym same ∙ record_split p ps (g ∷ x))))
same_records (p ∷ ps) (q ∷ qs) g h x y sp sq cg ch same =
    let first = same_record p q (flat_map record_of ps ++ g ∷ x) (flat_map record_of qs ++ h ∷ y) sp.0 sq.0
    (sym (record_split p ps (g ∷ x)) ∙ same ∙ record_split q qs (h ∷ y)) in
    let rest = same_records ps qs g h x y sp.1 sq.1 cg ch first.1 in
    cc

pub file_fixes_payloads : FileFixesPayloads
unfolding records_of
file_fixes_payloads ps qs bytes f g =
    let regrouped : header ++ (flat_map record_of ps ++ f.gate ∷ f.tail)
    ≡ header ++ (flat_map record_of qs ++ g.gate ∷ g.tail) =
    sym (append_assoc header (flat_map record_of ps) (f.gate ∷ f.tail)) ∙ sym f.spelled ∙ g.spelled
    ∙ append_assoc header (flat_map record_of qs) (g.gate ∷ g.tail) in
    same_records ps qs f.gate g.gate f.tail g.tail f.short g.short f.closed g.closed
    (append_cancel_left header
    (flat_map record_of ps ++ f.gate ∷ f.tail) (flat_map record_of qs ++ g.gate ∷ g.tail) regrouped)
