-- Texts fix commits that are meant.
--     texts_fix_commit         two commits with one text are one
--     payload_fixes_commit     and so are two with one payload
use Rattle.std.proofs.Common.{◌≡◌, ℕ, List, [], ◌∷◌, map, refl, sym, ap, ◌∙◌}
use Rattle.std.specs.List.{AllByRecursion}
use Rattle.std.proofs.lemmas.Option.{same_Some}
use Rattle.wh_state.specs.Commit.{Change, Commit, TextCommit, change_as_text, as_text}
use Rattle.wh_state.specs.Spelling.{IsUnderstood, IsCommit}
use Rattle.wh_record.proofs.CommitLaws.{payload_fixes_text_commit}
use Rattle.wh_commit_parse.specs.Laws.{PayloadFixesCommit}
use Rattle.wh_commit_parse.specs.Meant.{change_meant}
use Rattle.wh_commit_parse.proofs.MeantLaws.{change_again}

-- ---- changes

-- what the texts of a change mean is that change
texts_fix_change : (c d : Change) → IsUnderstood c → IsUnderstood d → change_as_text c ≡ change_as_text d → c ≡ d
texts_fix_change c d h k same =
    same_Some c d (sym (change_again c h) ∙ ap change_meant same ∙ change_again d k)

-- ---- commits

texts_fix_changes : (cs ds : List Change) → AllByRecursion IsUnderstood cs → AllByRecursion IsUnderstood ds
    → map change_as_text cs ≡ map change_as_text ds
    → cs ≡ ds
texts_fix_changes [] [] h k same = refl
texts_fix_changes [] (d ∷ ds) h k same = absurd cc
texts_fix_changes (c ∷ cs) [] h k same = absurd cc
texts_fix_changes (c ∷ cs) (d ∷ ds) h k same =
    let first : c ≡ d = texts_fix_change c d h.0 k.0 cc in
    let rest : cs ≡ ds = texts_fix_changes cs ds h.1 k.1 cc in
    cc

pub texts_fix_commit : (c d : Commit) → IsCommit c → IsCommit d → as_text c ≡ as_text d → c ≡ d
texts_fix_commit c d h k same =
    let stamp : c.stamp ≡ d.stamp = ap (λ (t : TextCommit). t.stamp) same in
    let changes = texts_fix_changes c.changes d.changes h.understood k.understood
    (ap (λ (t : TextCommit). t.changes) same) in
    ap {B = Commit} (λ (p : ℕ × List Change). record { stamp = p.0; changes = p.1 }) cc

pub payload_fixes_commit : PayloadFixesCommit
payload_fixes_commit c d h k same =
    texts_fix_commit c d h k (payload_fixes_text_commit (as_text c) (as_text d) h.written k.written same)
