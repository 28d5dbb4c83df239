-- A file has at most one first fault, and one that has it stands for no state.
--     one_way                                             two readings take the same commits, and leave the same bytes
--     first_fault_is_one, faulty_file_stands_for_none     the two laws
use Rattle.std.proofs.Common.{◌≡◌, ◌≢◌, inl, inr, ℕ, ◌<◌, ◌^◌, List, [], ◌∷◌, ◌++◌, length, map}
use Rattle.std.proofs.Common.{refl, sym, ap, subst, ◌∙◌, append_assoc, arith}
use Rattle.std.specs.List.{flat_map, AllByRecursion}
use Rattle.std.proofs.lemmas.List.{append_cancel_left}
use Rattle.std.proofs.lemmas.List.Concat.{flat_map-cons}
use Rattle.wh_frame.specs.File.{header, record_of, records_of, LacksHeader}
use Rattle.wh_frame.proofs.RecordLaws.{same_record, gate_of}
use Rattle.wh_state.specs.Stored.{Stored, first_stored}
use Rattle.wh_state.specs.Commit.{Commit, Applies, applied, Leads}
use Rattle.wh_state.specs.Spelling.{payload_of, IsCommit}
use Rattle.wh_state.specs.File.{Holds, Keeps}
use Rattle.wh_state.specs.Fault.{IsFaulty, BreaksOff, IsFirstFault}
use Rattle.wh_commit_parse.specs.Laws.{FirstFaultIsOne, FaultyFileStandsForNone}
use Rattle.wh_commit_parse.proofs.CommitLaws.{payload_fixes_commit}

-- ---- one record

-- a record fixes its payload, and what is behind it
not_nothing : (payload rest : List ℕ) → [] ≡ record_of payload ++ rest → ⊥
unfolding record_of
not_nothing payload rest is = cc

abbrev bytes_of : List Commit → List ℕ
bytes_of cs = flat_map record_of (map payload_of cs)

first_record : (c : Commit) (cs : List Commit) (x : List ℕ)
    → bytes_of (c ∷ cs) ++ x ≡ record_of (payload_of c) ++ (bytes_of cs ++ x)
first_record c cs x =
    ap (λ (l : List ℕ). l ++ x) (flat_map-cons record_of (payload_of c) (map payload_of cs))
    ∙ append_assoc (record_of (payload_of c)) (bytes_of cs) x

-- ---- where a reading ends

-- the bytes begin with no record of a commit that applies
abbrev Ends : List ℕ → Stored → Type 0
Ends bytes reached = (c : Commit) (rest : List ℕ) → IsCommit c → length (payload_of c) < 2 ^ 64 → Applies reached c
    → bytes ≡ record_of (payload_of c) ++ rest → ⊥

fault_ends : (bytes : List ℕ) (reached : Stored) → IsFaulty bytes reached → Ends bytes reached
fault_ends bytes reached (inl none) = λ c rest good short applies is. not_nothing (payload_of c) rest (sym none ∙ is)
fault_ends bytes reached (inr (inl is_cut)) = λ c rest good short applies is. is_cut.cut (payload_of c) rest short is
fault_ends bytes reached (inr (inr strays)) = λ c rest good short applies is.
    let one = same_record strays.payload (payload_of c) strays.rest rest strays.short short (sym strays.spelled ∙ is) in
    strays.none c good one.0 applies

gate_ends : (gate : ℕ) (tail : List ℕ) (reached : Stored) → gate ≢ 1 → Ends (gate ∷ tail) reached
gate_ends gate tail reached closed = λ c rest good short applies is. closed (gate_of (payload_of c) rest gate tail is)

-- a fault is no gate that is closed
no_gate : (bytes : List ℕ) (reached : Stored) (gate : ℕ) (tail : List ℕ)
    → IsFaulty bytes reached → gate ≢ 1 → bytes ≡ gate ∷ tail → ⊥
no_gate bytes reached gate tail (inl none) closed is = cc
no_gate bytes reached gate tail (inr (inl is_cut)) closed is = closed (cc (is_cut.open_gate))
no_gate bytes reached gate tail (inr (inr strays)) closed is =
    closed (gate_of strays.payload strays.rest gate tail (sym is ∙ strays.spelled))

-- ---- a reading from its start

-- commits that apply one after the other, and behind them bytes that end the reading
record Reading (old : Stored) (cs : List Commit) (bytes : List ℕ) : Type 0 where
  good : AllByRecursion IsCommit cs
  short : AllByRecursion (λ c. length (payload_of c) < 2 ^ 64) cs
  reached : Stored
  leads : Leads old cs reached
  ends : Ends bytes reached

further : (old : Stored) (c : Commit) (cs : List Commit) (bytes : List ℕ) → Reading old (c ∷ cs) bytes
    → Reading (applied old c) cs bytes
further old c cs bytes r =
    record { good = r.good.1; short = r.short.1; reached = r.reached; leads = r.leads.1; ends = r.ends }

no_more : (old : Stored) (c : Commit) (cs : List Commit) (x y : List ℕ)
    → Reading old [] x → Reading old (c ∷ cs) y → x ≡ bytes_of (c ∷ cs) ++ y → ⊥
no_more old c cs x y here more same =
    let applies : Applies here.reached c = subst (λ (s : Stored). Applies s c) here.leads more.leads.0 in
    here.ends c (bytes_of cs ++ y) more.good.0 more.short.0 applies (same ∙ first_record c cs y)

-- two readings of one list of bytes take the same commits, and leave the same bytes
one_way : (old : Stored) (cs ds : List Commit) (x y : List ℕ) → Reading old cs x → Reading old ds y
    → bytes_of cs ++ x ≡ bytes_of ds ++ y → (cs ≡ ds) × (x ≡ y)
one_way old [] [] x y r t same = (refl, same)
one_way old [] (d ∷ ds) x y r t same = absurd (no_more old d ds x y r t same)
one_way old (c ∷ cs) [] x y r t same = absurd (no_more old c cs y x t r (sym same))
one_way old (c ∷ cs) (d ∷ ds) x y r t same =
    let regrouped = sym (first_record c cs x) ∙ same ∙ first_record d ds y in
    let one =
    same_record (payload_of c) (payload_of d) (bytes_of cs ++ x) (bytes_of ds ++ y) r.short.0 t.short.0 regrouped in
    let first : c ≡ d = payload_fixes_commit c d r.good.0 t.good.0 one.0 in
    let other : Reading (applied old c) ds y =
    subst (λ (e : Commit). Reading (applied old e) ds y) (sym first) (further old d ds y t) in
    let rest = one_way (applied old c) cs ds x y (further old c cs x r) other one.1 in
    (cc, rest.1)

-- ---- files

behind_header : (file : List ℕ) (cs : List Commit) (x : List ℕ)
    → file ≡ records_of (map payload_of cs) ++ x → file ≡ header ++ (bytes_of cs ++ x)
unfolding records_of
behind_header file cs x spelled = spelled ∙ append_assoc header (bytes_of cs) x

same_behind : (file : List ℕ) (cs ds : List Commit) (x y : List ℕ) → file ≡ records_of (map payload_of cs) ++ x
    → file ≡ records_of (map payload_of ds) ++ y → bytes_of cs ++ x ≡ bytes_of ds ++ y
same_behind file cs ds x y one other =
    append_cancel_left header
    (bytes_of cs ++ x) (bytes_of ds ++ y) (sym (behind_header file cs x one) ∙ behind_header file ds y other)

no_header : (file : List ℕ) (at : ℕ) (cs : List Commit) (x : List ℕ)
    → LacksHeader file at → file ≡ records_of (map payload_of cs) ++ x → ⊥
no_header file at cs x lacks spelled = lacks.other (bytes_of cs ++ x) (behind_header file cs x spelled)

fault_reading : (file : List ℕ) (at : ℕ) → (f : BreaksOff file at) → Reading first_stored f.commits f.rest
fault_reading file at f = record {
  good = f.good;
  short = f.short;
  reached = f.reached;
  leads = f.leads;
  ends = fault_ends f.rest f.reached f.faulty;
}

short_commits : (cs : List Commit) → AllByRecursion (λ payload. length payload < 2 ^ 64) (map payload_of cs)
    → AllByRecursion (λ c. length (payload_of c) < 2 ^ 64) cs
short_commits [] h = tt
short_commits (c ∷ cs) h = (h.0, short_commits cs h.1)

whole_reading : (file : List ℕ) (s : Stored) → (h : Holds file s)
    → Reading first_stored h.commits (h.file.gate ∷ h.file.tail)
whole_reading file s h = record {
  good = h.good;
  short = short_commits h.commits h.file.short;
  reached = s;
  leads = h.leads;
  ends = gate_ends h.file.gate h.file.tail s h.file.closed;
}

-- no two positions are where a file has its first fault
pub first_fault_is_one : FirstFaultIsOne
first_fault_is_one file a b (inl f) (inl g) = f.place ∙ sym g.place
first_fault_is_one file a b (inl f) (inr g) = absurd (no_header file a g.commits g.rest f g.spelled)
first_fault_is_one file a b (inr f) (inl g) = absurd (no_header file b f.commits f.rest g f.spelled)
first_fault_is_one file a b (inr f) (inr g) =
    let same = same_behind file f.commits g.commits f.rest g.rest f.spelled g.spelled in
    let one =
    one_way first_stored f.commits g.commits f.rest g.rest (fault_reading file a f) (fault_reading file b g) same in
    f.place ∙ ap (λ (cs : List Commit). length (records_of (map payload_of cs))) one.0 ∙ sym g.place

no_hold : (file : List ℕ) (at : ℕ) (s : Stored) → IsFirstFault file at → Holds file s → ⊥
no_hold file at s (inl f) h = no_header file at h.commits (h.file.gate ∷ h.file.tail) f h.file.spelled
no_hold file at s (inr f) h =
    let gate = h.file.gate ∷ h.file.tail in
    let same = same_behind file f.commits h.commits f.rest gate f.spelled h.file.spelled in
    let one =
    one_way first_stored f.commits h.commits f.rest gate (fault_reading file at f) (whole_reading file s h) same in
    no_gate f.rest f.reached h.file.gate h.file.tail f.faulty h.file.closed one.1

no_keep : (file : List ℕ) (at : ℕ) (s : Stored) → 8 < length file → IsFirstFault file at → Keeps file s → ⊥
no_keep file at s long fault (inl few) = absurd (omega (arith, few.0))
no_keep file at s long fault (inr more) = no_hold file at s fault more.1

-- a longer file than 8 bytes that has a first fault stands for no state
pub faulty_file_stands_for_none : FaultyFileStandsForNone
faulty_file_stands_for_none file at state long fault stands = no_keep file at stands.0 long fault stands.1
