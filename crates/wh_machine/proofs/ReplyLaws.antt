-- Replies one after the other, and how many of them stand whole in the bytes that were written.
--     print_some                                      no reply is empty
--     after_append, text_append, refusals_append      a run of events, and then more
--     whole_replies_of                                behind all replies to the first events
--     no_whole_reply, few_replies                     none stands whole
--     whole_replies_at_most                           no more than there are
use Rattle.std.proofs.Common.{◌≡◌, ℕ, suc, ◌+◌, ◌-◌, ◌<◌, ◌≤◌, Bool, true, false, cond, leb}
use Rattle.std.proofs.Common.{List, [], ◌∷◌, ◌++◌, length, refl, sym, ap, ◌∙◌, append_assoc, arith, length-append}
use Rattle.std.specs.Prelude.{codes, decimal}
use Rattle.std.specs.List.{flat_map}
use Rattle.std.proofs.lemmas.Bool.{le-leb, lt-leb}
use Rattle.wh_reply.specs.Reply.{Reply, CreatedTable, DroppedTable, CreatedStream, DroppedStream, CreatedTask}
use Rattle.wh_reply.specs.Reply.{DroppedTask, Resumed, Suspended, Started, TaskSucceeded, TaskSkipped, TaskFailed}
use Rattle.wh_reply.specs.Reply.{HasData, Changed, Begun, Committed, CommittedNothing, RolledBack, Listing, Idle}
use Rattle.wh_reply.specs.Reply.{Refused, line, parted, row_line, refusal_text, counts_text, truth_text, print}
use Rattle.wh_reply.specs.Reply.{aftermath_lines, CreatedDynamicTable, DroppedDynamicTable, Altered, RefreshedTables}
use Rattle.wh_reply.specs.Reply.{RefreshFailed, refreshed_line, suspended_text}
use Rattle.wh_machine.specs.Outcome.{Machine}
use Rattle.wh_machine.specs.Step.{Event, step, after, text, refusals}
use Rattle.wh_machine.specs.Stop.{whole_replies}

ends_some : (front back : List ℕ) → 0 < length back → 0 < length (front ++ back)
ends_some front back some = omega (arith, length-append front back)

line_some : (bytes : List ℕ) → 0 < length (line bytes)
line_some bytes = ends_some bytes (10 ∷ []) (omega arith)

begins_some : (front back : List ℕ) → 0 < length front → 0 < length (front ++ back)
begins_some front back some = omega (arith, length-append front back)

-- a line and more
lines_some : (bytes more : List ℕ) → 0 < length (line bytes ++ more)
lines_some bytes more = begins_some (line bytes) more (line_some bytes)

-- a reply is never empty
pub print_some : (r : Reply) → 0 < length (print r)
unfolding print
print_some (CreatedDynamicTable name refreshed) =
    lines_some (codes "CREATED DYNAMIC TABLE " ++ name) (flat_map refreshed_line refreshed)
print_some (DroppedDynamicTable name) = line_some (codes "DROPPED DYNAMIC TABLE " ++ name)
print_some (Altered name) = line_some (codes "ALTERED " ++ name)
print_some (RefreshedTables []) = line_some (codes "IDLE")
print_some (RefreshedTables (r ∷ rs)) = begins_some (refreshed_line r) (flat_map refreshed_line rs) (line_some _)
print_some (RefreshFailed name target why is_suspended) = line_some
    (name ++ codes " FAILED " ++ decimal target ++ codes " " ++ refusal_text why ++ suspended_text is_suspended)
print_some (CreatedTable name) = line_some (codes "CREATED TABLE " ++ name)
print_some (DroppedTable name) = line_some (codes "DROPPED TABLE " ++ name)
print_some (CreatedStream name) = line_some (codes "CREATED STREAM " ++ name)
print_some (DroppedStream name) = line_some (codes "DROPPED STREAM " ++ name)
print_some (CreatedTask name) = line_some (codes "CREATED TASK " ++ name)
print_some (DroppedTask name) = line_some (codes "DROPPED TASK " ++ name)
print_some (Resumed name) = line_some (codes "RESUMED " ++ name)
print_some (Suspended name) = line_some (codes "SUSPENDED " ++ name)
print_some (Started root) = line_some (codes "STARTED " ++ root)
print_some (TaskSucceeded name counts aftermath) =
    lines_some (codes "TASK " ++ name ++ codes " SUCCEEDED " ++ counts_text counts) (aftermath_lines aftermath)
print_some (TaskSkipped name aftermath) =
    lines_some (codes "TASK " ++ name ++ codes " SKIPPED") (aftermath_lines aftermath)
print_some (TaskFailed name why aftermath) =
    lines_some (codes "TASK " ++ name ++ codes " FAILED " ++ refusal_text why) (aftermath_lines aftermath)
print_some (HasData has) = line_some (truth_text has)
print_some (Changed counts) = line_some (counts_text counts)
print_some (Begun number) = line_some (codes "BEGUN " ++ decimal number)
print_some (Committed stamp) = line_some (codes "COMMITTED " ++ decimal stamp)
print_some CommittedNothing = line_some (codes "COMMITTED NOTHING")
print_some RolledBack = line_some (codes "ROLLED BACK")
print_some (Listing names rows) =
    let last : List ℕ = codes "(" ++ decimal (length rows) ++ codes " rows)" in
    ends_some (line (parted names) ++ flat_map row_line rows) (line last) (line_some last)
print_some Idle = line_some (codes "IDLE")
print_some (Refused why) = line_some (refusal_text why)

-- ---- runs

-- the state after events, and then more
pub after_append : (m : Machine) (es fs : List Event) → after m (es ++ fs) ≡ after (after m es) fs
after_append m [] fs = refl
after_append m (e ∷ es) fs = after_append (step m e).0 es fs

-- the text of the replies to events, and then to more
pub text_append : (m : Machine) (es fs : List Event) → text m (es ++ fs) ≡ text m es ++ text (after m es) fs
text_append m [] fs = refl
text_append m (e ∷ es) fs =
    ap (λ (l : List ℕ). print (step m e).1 ++ l) (text_append (step m e).0 es fs)
    ∙ sym (append_assoc (print (step m e).1) (text (step m e).0 es) (text (after m (e ∷ es)) fs))

-- how many are refused of events, and then of more
pub refusals_append : (m : Machine) (es fs : List Event)
    → refusals m (es ++ fs) ≡ refusals m es + refusals (after m es) fs
refusals_append m [] fs = omega arith
refusals_append m (e ∷ es) fs = omega (arith, refusals_append (step m e).0 es fs)

-- ---- whole replies

-- a first reply that stands whole, and those in the bytes behind it
one_whole : (m : Machine) (e : Event) (es : List Event) (written : ℕ) → length (print (step m e).1) ≤ written
    → whole_replies m (e ∷ es) written ≡ 1 + whole_replies (step m e).0 es (written - length (print (step m e).1))
one_whole m e es written h =
    let fits : leb (length (print (step m e).1)) written ≡ true = le-leb _ _ h in
    rw fits

-- where the first reply is longer than the bytes, none stands whole
pub few_replies : (m : Machine) (e : Event) (es : List Event) (n : ℕ) → n < length (print (step m e).1)
    → whole_replies m (e ∷ es) n ≡ 0
few_replies m e es n h =
    let none : leb (length (print (step m e).1)) n ≡ false = lt-leb _ _ h in
    rw none

-- no reply stands whole in no bytes
pub no_whole_reply : (m : Machine) (es : List Event) → whole_replies m es 0 ≡ 0
no_whole_reply m [] = refl
no_whole_reply m (e ∷ es) = few_replies m e es 0 (print_some (step m e).1)

-- behind all replies to the first events, those to the others are counted
pub whole_replies_of : (m : Machine) (es fs : List Event) (more : ℕ)
    → whole_replies m (es ++ fs) (length (text m es) + more) ≡ length es + whole_replies (after m es) fs more
whole_replies_of m [] fs more =
    let none : 0 + more ≡ more = omega arith in
    let all : whole_replies m fs more ≡ 0 + whole_replies m fs more = omega arith in
    ap (whole_replies m fs) none ∙ all
whole_replies_of m (e ∷ es) fs more =
    let reply : List ℕ = print (step m e).1 in
    let rest : List ℕ = text (step m e).0 es in
    let size = length-append reply rest in
    let behind : length (reply ++ rest) + more - length reply ≡ length rest + more = omega (arith, size) in
    let these : whole_replies (step m e).0 (es ++ fs) (length (reply ++ rest) + more - length reply)
    ≡ length es + whole_replies (after (step m e).0 es) fs more =
    ap (whole_replies (step m e).0 (es ++ fs)) behind ∙ whole_replies_of (step m e).0 es fs more in
    omega (arith, one_whole m e (es ++ fs) (length (reply ++ rest) + more) (omega (arith, size)), these)

one_more : (fits : Bool) (n most : ℕ) → n ≤ most → cond fits (1 + n) 0 ≤ suc most
one_more true n most h = omega arith
one_more false n most h = omega arith

-- no more replies stand whole than there are
pub whole_replies_at_most : (m : Machine) (es : List Event) (written : ℕ) → whole_replies m es written ≤ length es
whole_replies_at_most m [] written = omega arith
whole_replies_at_most m (e ∷ es) written =
    one_more (leb (length (print (step m e).1)) written) _ (length es)
    (whole_replies_at_most (step m e).0 es (written - length (print (step m e).1)))
