-- Pieces that are written one after the other.
use Rattle.std.proofs.Common.{◌≡◌, ℕ, List, [], ◌∷◌, ◌++◌, map, sym, ◌∙◌, ap, append_assoc}
use Rattle.std.proofs.lemmas.Simd.{map-map}
use Rattle.std.specs.Int.{w32, w64, to_be_bytes, cast_unsigned}
use Rattle.wh_meaning.specs.Query.{Total}
use Rattle.wh_frame.specs.Spelling.{text_bytes, list_bytes}
use Rattle.wh_state.specs.Commit.{TextCommit, InTexts, DynamicChangeIn, change_as_text}
use Rattle.wh_state.specs.Spelling.{text_payload, change_bytes, column_bytes, offset_bytes, truth_byte, state_bytes}
use Rattle.wh_state.specs.Spelling.{source_bytes, mode_byte, dynamic_bytes, dynamic_state_bytes}
use Rattle.wh_state.specs.Spelling.{total_bytes, entry_bytes, groups_bytes}
use Rattle.wh_state.specs.Task.{TaskState}
use Rattle.wh_state.specs.Dynamic.{DynamicState, GroupsChange}
use Rattle.wh_record.specs.View.{UnderstoodChange, change_of, written_of}

pub four_written : (a b c d before one two three after : List ℕ)
    → one ≡ before ++ a → two ≡ one ++ b → three ≡ two ++ c → after ≡ three ++ d → after ≡ before ++ (a ++ b ++ c ++ d)
four_written a b c d before one two three after p q r s =
    let whole : after ≡ (((before ++ a) ++ b) ++ c) ++ d = cc in
    whole ∙ simp append_assoc

two_written : (a b before one after : List ℕ) → one ≡ before ++ a → after ≡ one ++ b → after ≡ before ++ (a ++ b)
two_written a b before one after p q = q ∙ ap (λ (l : List ℕ). l ++ b) p ∙ append_assoc before a b

-- the id and the offset are the change
pub offset_written : (id offset : ℕ) (before one after : List ℕ) → one ≡ before ++ to_be_bytes w32 id
    → after ≡ one ++ to_be_bytes w64 offset
    → after ≡ before ++ offset_bytes id offset
unfolding offset_bytes
offset_written id offset before one after p q =
    two_written (to_be_bytes w32 id) (to_be_bytes w64 offset) before one after p q

-- the id and the state are the change
pub state_written : (id : ℕ) (s : TaskState) (before one two three four after : List ℕ)
    → one ≡ before ++ to_be_bytes w32 id → two ≡ one ++ truth_byte s.is_resumed ∷ [] → three ≡ two ++ to_be_bytes w64 s.base
    → four ≡ three ++ to_be_bytes w64 s.last_start → after ≡ four ++ to_be_bytes w32 s.failures
    → after ≡ before ++ state_bytes id s
unfolding state_bytes
state_written id s before one two three four after p q r t u =
    let whole : after ≡ ((((before ++ to_be_bytes w32 id) ++ truth_byte s.is_resumed ∷ []) ++ to_be_bytes w64 s.base)
    ++ to_be_bytes w64 s.last_start) ++ to_be_bytes w32 s.failures = cc in
    whole ∙ simp append_assoc

seven_regrouped : (before a b c t s k : List ℕ) (m : ℕ)
    → ((((((before ++ a) ++ b) ++ c) ++ m ∷ []) ++ t) ++ s) ++ k ≡ before ++ (a ++ b ++ c ++ m ∷ t ++ s ++ k)
seven_regrouped before a b c t s k m = simp append_assoc

-- the fields are the dynamic table
pub dynamic_written : (c : DynamicChangeIn InTexts) (before one two three four five six after : List ℕ)
    → one ≡ before ++ to_be_bytes w32 c.id → two ≡ one ++ text_bytes c.name → three ≡ two ++ to_be_bytes w32 c.lag
    → four ≡ three ++ mode_byte c.is_incremental ∷ [] → five ≡ four ++ text_bytes c.query.text
    → six ≡ five ++ list_bytes source_bytes c.query.sources → after ≡ six ++ list_bytes column_bytes c.columns
    → after ≡ before ++ dynamic_bytes c
unfolding dynamic_bytes
dynamic_written c before one two three four five six after p q r s t u v =
    let whole : after ≡ ((((((before ++ to_be_bytes w32 c.id) ++ text_bytes c.name) ++ to_be_bytes w32 c.lag)
    ++ mode_byte c.is_incremental ∷ []) ++ text_bytes c.query.text) ++ list_bytes source_bytes c.query.sources)
    ++ list_bytes column_bytes c.columns = cc in
    whole ∙ seven_regrouped before (to_be_bytes w32 c.id) (text_bytes c.name) (to_be_bytes w32 c.lag)
    (text_bytes c.query.text) (list_bytes source_bytes c.query.sources) (list_bytes column_bytes c.columns)
    (mode_byte c.is_incremental)

-- the id and the state are the change
pub dynamic_state_written : (id : ℕ) (s : DynamicState) (before one two three four five after : List ℕ)
    → one ≡ before ++ to_be_bytes w32 id → two ≡ one ++ to_be_bytes w32 s.lag
    → three ≡ two ++ truth_byte s.is_suspended ∷ [] → four ≡ three ++ to_be_bytes w32 s.failures
    → five ≡ four ++ to_be_bytes w64 s.tried → after ≡ five ++ to_be_bytes w64 s.moment
    → after ≡ before ++ dynamic_state_bytes id s
unfolding dynamic_state_bytes
dynamic_state_written id s before one two three four five after p q r t u v =
    let whole : after ≡ (((((before ++ to_be_bytes w32 id) ++ to_be_bytes w32 s.lag) ++ truth_byte s.is_suspended ∷ [])
    ++ to_be_bytes w32 s.failures) ++ to_be_bytes w64 s.tried) ++ to_be_bytes w64 s.moment = cc in
    whole ∙ simp append_assoc

-- the sum and the count are the total
pub total_written : (t : Total) (before one after : List ℕ) → one ≡ before ++ to_be_bytes w64 (cast_unsigned w64 t.sum)
    → after ≡ one ++ to_be_bytes w64 t.values
    → after ≡ before ++ total_bytes t
total_written t before one after p q =
    two_written (to_be_bytes w64 (cast_unsigned w64 t.sum)) (to_be_bytes w64 t.values) before one after p q

-- the id, what the Group has, and the entries are the change
pub groups_written : (id : ℕ) (c : GroupsChange) (before one two three after : List ℕ)
    → one ≡ before ++ to_be_bytes w32 id → two ≡ one ++ to_be_bytes w32 c.keys → three ≡ two ++ to_be_bytes w32 c.calls
    → after ≡ three ++ list_bytes (entry_bytes c.calls) c.entries
    → after ≡ before ++ groups_bytes id c
unfolding groups_bytes
groups_written id c before one two three after p q r s =
    four_written (to_be_bytes w32 id) (to_be_bytes w32 c.keys) (to_be_bytes w32 c.calls)
    (list_bytes (entry_bytes c.calls) c.entries) before one two three after p q r s

-- the stamp and the changes are the commit
pub commit_written : (c : TextCommit) (before one after : List ℕ) → one ≡ before ++ to_be_bytes w64 c.stamp
    → after ≡ one ++ list_bytes change_bytes c.changes
    → after ≡ before ++ text_payload c
unfolding text_payload
commit_written c before one after p q =
    two_written (to_be_bytes w64 c.stamp) (list_bytes change_bytes c.changes) before one after p q

-- what is written of changes is what their texts say
pub as_written : (changes : List UnderstoodChange)
    → map written_of changes ≡ map change_as_text (map change_of changes)
as_written changes = sym (map-map change_as_text change_of changes)
