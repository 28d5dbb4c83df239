-- What the bytes of commits and files fix, and where partitions stand in them.
--     PayloadFixesTextCommit     of a commit: what its texts say
--     FileFixesPayloads          of a file: its records
--     AllSpelled, AllWithin      the partitions that a commit adds stand in its payload, where `filed_in` says
use Rattle.std.specs.Prelude.{◌≡◌, ℕ, ◌+◌, List, ◌++◌, length, drop}
use Rattle.std.specs.List.{AllByRecursion}
use Rattle.wh_frame.specs.File.{IsFileOf}
use Rattle.wh_filed.specs.Filing.{IsSpelledIn, EndsBy}
use Rattle.wh_state.specs.Commit.{TextCommit, Commit, as_text}
use Rattle.wh_state.specs.Spelling.{text_payload, payload_of, IsTextCommit}
use Rattle.wh_record.specs.Places.{filed_in}

-- no two commits with other texts have one payload
abbrev pub PayloadFixesTextCommit : Type 0
PayloadFixesTextCommit = (c d : TextCommit) → IsTextCommit c → IsTextCommit d → text_payload c ≡ text_payload d → c ≡ d

-- no bytes are a file of two lists of payloads
abbrev pub FileFixesPayloads : Type 0
FileFixesPayloads = (ps qs : List (List ℕ)) (bytes : List ℕ) → IsFileOf ps bytes → IsFileOf qs bytes → ps ≡ qs

-- where bytes have a commit's payload at a position, they spell each partition that it adds, at its place
abbrev pub AllSpelled : Type 0
AllSpelled = (c : Commit) (at : ℕ) (bytes rest : List ℕ) → IsTextCommit (as_text c)
    → drop at bytes ≡ payload_of c ++ rest
    → AllByRecursion (IsSpelledIn bytes) (filed_in at c)

-- and none of these ends behind the payload
abbrev pub AllWithin : Type 0
AllWithin = (c : Commit) (at : ℕ) → AllByRecursion (EndsBy (at + length (payload_of c))) (filed_in at c)
