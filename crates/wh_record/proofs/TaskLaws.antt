-- What is read of tasks is spelled so, and what is spelled so is read.
--     reads_task, reads_truth, reads_state, reads_run, reads_end     the two laws of each
use Rattle.std.proofs.Common.{◌≡◌, ℕ, zero, suc, ◌^◌, ◌<◌, Bool, true, false, List, [], ◌∷◌, ◌++◌, length, Some, refl}
use Rattle.std.proofs.Common.{sym, append_assoc}
use Rattle.std.specs.Int.{w32, w64, to_be_bytes}
use Rattle.wh_frame.specs.Spelling.{text_bytes, list_bytes}
use Rattle.wh_value.specs.Value.{IsText}
use Rattle.wh_state.specs.Task.{TaskTexts, Ending, Succeeded, Failed, Skipped}
use Rattle.wh_state.specs.Spelling.{task_bytes, truth_byte, state_bytes, run_bytes, ending_byte, end_bytes}
use Rattle.wh_state.specs.Spelling.{IsTaskChange, IsTaskState, IdsRiseFrom, IsRunChange}
use Rattle.wh_part.proofs.ReaderLaws.{AreBytes, Reads, reads_then, reads_same, reads_list, wide32, wide64}
use Rattle.wh_part.proofs.ReaderLaws.{reads_number, reads_text}
use Rattle.wh_record.specs.Decoding.{texts_at, task_at, truth_at, state_at, rising_ids_at, run_at, ending_at, end_at}
use Rattle.wh_record.proofs.FieldLaws.{byte_taken, reads_record, four_grouped, six_grouped, rising_ids, reads_rising}

-- ---- new tasks

abbrev text_bytes_of : TaskTexts → List ℕ
text_bytes_of t = text_bytes t.when ++ text_bytes t.body

reads_texts : Reads text_bytes_of (λ t. IsText t.when × IsText t.body) texts_at
unfolding texts_at
reads_texts =
    reads_record text_bytes_of (λ t. IsText t.when × IsText t.body) texts_at
    (λ t. (t.when, t.body)) (λ bytes. refl) (λ t. refl) (λ p. refl) (λ p good. good) (λ t good. good)
    (reads_then reads_text (λ when _. reads_text))

pub reads_task : Reads task_bytes IsTaskChange task_at
unfolding task_at task_bytes
reads_task =
    reads_record task_bytes IsTaskChange task_at
    (λ c. (c.id, (c.name, (c.minutes, (c.after, c.runs))))) (λ bytes. refl) (λ c. refl)
    (λ p. six_grouped (to_be_bytes w32 p.0) (text_bytes p.1.0) (to_be_bytes w32 p.1.1.0)
    (list_bytes (to_be_bytes w32) p.1.1.1.0) (text_bytes p.1.1.1.1.when) (text_bytes p.1.1.1.1.body))
    (λ p good. record {
      id = good.0;
      name = good.1.0;
      minutes = good.1.1.0;
      few = good.1.1.1.0.0;
      after = good.1.1.1.0.1;
      when = good.1.1.1.1.0;
      body = good.1.1.1.1.1;
    })
    (λ c good. (good.id, (good.name, (good.minutes, ((good.few, good.after), (good.when, good.body))))))
    (reads_then (reads_number wide32) (λ id _. reads_then reads_text (λ name _. reads_then (reads_number wide32)
    (λ minutes _. reads_then (reads_list (reads_number wide32) (reads_number wide32)) (λ after _. reads_texts)))))

-- ---- states

truth_takes : (bytes : List ℕ) (b : Bool) (rest : List ℕ) → AreBytes bytes → truth_at bytes ≡ Some (b, rest)
    → (bytes ≡ truth_byte b ∷ [] ++ rest) × Unit {0}
unfolding truth_at
truth_takes [] b rest fits e = absurd cc
truth_takes (zero ∷ bytes) b rest fits e = byte_taken truth_byte false b bytes rest e
truth_takes (suc zero ∷ bytes) b rest fits e = byte_taken truth_byte true b bytes rest e
truth_takes (suc (suc truth) ∷ bytes) b rest fits e = absurd cc

truth_again : (b : Bool) (rest : List ℕ) → Unit {0} → truth_at (truth_byte b ∷ [] ++ rest) ≡ Some (b, rest)
unfolding truth_at
truth_again false rest good = refl
truth_again true rest good = refl

pub reads_truth : Reads (λ b. truth_byte b ∷ []) (λ b. Unit {0}) truth_at
reads_truth = record { takes = truth_takes; again = truth_again }

pub reads_state : Reads (λ p. state_bytes p.0 p.1) (λ p. IsTaskState p.0 p.1) state_at
unfolding state_at state_bytes
reads_state =
    reads_record (λ p. state_bytes p.0 p.1) (λ p. IsTaskState p.0 p.1) state_at
    (λ p. (p.0, (p.1.is_resumed, (p.1.base, (p.1.last_start, p.1.failures))))) (λ bytes. refl) (λ p. refl)
    (λ p. four_grouped (to_be_bytes w32 p.0) (truth_byte p.1.0 ∷ to_be_bytes w64 p.1.1.0) (to_be_bytes w64 p.1.1.1.0)
    (to_be_bytes w32 p.1.1.1.1))
    (λ p good. record { id = good.0; base = good.1.1.0; last_start = good.1.1.1.0; failures = good.1.1.1.1 })
    (λ p good. (good.id, (tt, (good.base, (good.last_start, good.failures)))))
    (reads_then (reads_number wide32) (λ id _. reads_then reads_truth (λ truth _. reads_then (reads_number wide64)
    (λ base _. reads_then (reads_number wide64) (λ start _. reads_number wide32)))))

-- ---- runs

reads_ids : Reads (list_bytes (to_be_bytes w32)) (λ ids. (length ids < 2 ^ 32) × IdsRiseFrom 0 ids) rising_ids_at
unfolding rising_ids_at
reads_ids = reads_rising rising_ids rising_ids_at (λ bytes. refl) (reads_number wide32)

pub reads_run : Reads (λ p. run_bytes p.0 p.1) (λ p. IsRunChange p.0 p.1) run_at
unfolding run_at run_bytes
reads_run =
    reads_same (λ p. run_bytes p.0 p.1) (λ p. IsRunChange p.0 p.1) run_at (λ bytes. refl) (λ p. refl)
    (λ p good. record { root = good.0; few = good.1.0; tasks = good.1.1 })
    (λ p good. (good.root, (good.few, good.tasks)))
    (reads_then (reads_number wide32) (λ root _. reads_ids))

-- ---- ends

ending_takes : (bytes : List ℕ) (x : Ending) (rest : List ℕ) → AreBytes bytes → ending_at bytes ≡ Some (x, rest)
    → (bytes ≡ ending_byte x ∷ [] ++ rest) × Unit {0}
unfolding ending_at
ending_takes [] x rest fits e = absurd cc
ending_takes (zero ∷ bytes) x rest fits e = absurd cc
ending_takes (suc zero ∷ bytes) x rest fits e = byte_taken ending_byte Succeeded x bytes rest e
ending_takes (suc (suc zero) ∷ bytes) x rest fits e = byte_taken ending_byte Failed x bytes rest e
ending_takes (suc (suc (suc zero)) ∷ bytes) x rest fits e = byte_taken ending_byte Skipped x bytes rest e
ending_takes (suc (suc (suc (suc ending))) ∷ bytes) x rest fits e = absurd cc

ending_again : (x : Ending) (rest : List ℕ) → Unit {0} → ending_at (ending_byte x ∷ [] ++ rest) ≡ Some (x, rest)
unfolding ending_at
ending_again Succeeded rest good = refl
ending_again Failed rest good = refl
ending_again Skipped rest good = refl

reads_ending : Reads (λ x. ending_byte x ∷ []) (λ x. Unit {0}) ending_at
reads_ending = record { takes = ending_takes; again = ending_again }

pub reads_end : Reads (λ p. end_bytes p.0 p.1.0 p.1.1) (λ p. (p.0 < 2 ^ 32) × (p.1.0 < 2 ^ 32)) end_at
unfolding end_at end_bytes
reads_end =
    reads_same (λ p. end_bytes p.0 p.1.0 p.1.1) (λ p. (p.0 < 2 ^ 32) × (p.1.0 < 2 ^ 32)) end_at (λ bytes. refl)
    (λ p. sym (append_assoc (to_be_bytes w32 p.0) (to_be_bytes w32 p.1.0) (ending_byte p.1.1 ∷ [])))
    (λ p good. (good.0, good.1.0)) (λ p good. (good.0, (good.1, tt)))
    (reads_then (reads_number wide32) (λ root _. reads_then (reads_number wide32) (λ task _. reads_ending)))
