-- What the bytes of a file fix, of what is meant.
--     file_fixes_stored       what it keeps
--     file_fixes_state        the state that it stands for
use Rattle.std.proofs.Common.{◌≡◌, ℕ, List, [], ◌∷◌, map, sym, ap, refl, subst, ◌∙◌, arith, inl, inr}
use Rattle.std.specs.List.{AllByRecursion}
use Rattle.wh_state.specs.Stored.{Stored, first_stored, meant}
use Rattle.wh_state.specs.Commit.{Commit, Leads, applied}
use Rattle.wh_state.specs.Spelling.{payload_of, IsCommit}
use Rattle.wh_state.specs.File.{Holds}
use Rattle.wh_record.proofs.FileLaws.{file_fixes_payloads}
use Rattle.wh_commit_parse.specs.Laws.{FileFixesStored, FileFixesState}
use Rattle.wh_commit_parse.proofs.CommitLaws.{payload_fixes_commit}

same_commits : (cs ds : List Commit) → AllByRecursion IsCommit cs → AllByRecursion IsCommit ds
    → map payload_of cs ≡ map payload_of ds
    → cs ≡ ds
same_commits [] [] gc gd same = refl
same_commits [] (d ∷ ds) gc gd same = absurd cc
same_commits (c ∷ cs) [] gc gd same = absurd cc
same_commits (c ∷ cs) (d ∷ ds) gc gd same =
    let first : c ≡ d = payload_fixes_commit c d gc.0 gd.0 cc in
    let rest : cs ≡ ds = same_commits cs ds gc.1 gd.1 cc in
    cc

leads_to_one : (cs : List Commit) (old s t : Stored) → Leads old cs s → Leads old cs t → s ≡ t
leads_to_one [] old s t hs ht = sym hs ∙ ht
leads_to_one (c ∷ cs) old s t hs ht = leads_to_one cs (applied old c) s t hs.1 ht.1

pub holds_one : (bytes : List ℕ) (s t : Stored) → Holds bytes s → Holds bytes t → s ≡ t
holds_one bytes s t h k =
    let same = same_commits h.commits k.commits h.good k.good
    (file_fixes_payloads (map payload_of h.commits) (map payload_of k.commits) bytes h.file k.file) in
    leads_to_one k.commits first_stored s t (subst (λ (cs : List Commit). Leads first_stored cs s) same h.leads) k.leads

pub file_fixes_stored : FileFixesStored
file_fixes_stored bytes s t (inl h) (inl k) = h.1 ∙ sym k.1
file_fixes_stored bytes s t (inl h) (inr k) = absurd (omega (arith, h.0, k.0))
file_fixes_stored bytes s t (inr h) (inl k) = absurd (omega (arith, h.0, k.0))
file_fixes_stored bytes s t (inr h) (inr k) = holds_one bytes s t h.1 k.1

pub file_fixes_state : FileFixesState
file_fixes_state bytes a b h k = h.2 ∙ ap meant (file_fixes_stored bytes h.0 k.0 h.1 k.1) ∙ sym k.2
