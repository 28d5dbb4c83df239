-- What is read of dynamic tables is spelled so, and what is spelled so is read.
--     reads_dynamic, reads_dynamic_state     the two laws of each
use Rattle.std.proofs.Common.{◌≡◌, ℕ, zero, suc, ◌^◌, ◌<◌, Bool, true, false, List, [], ◌∷◌, ◌++◌, length, Some, refl}
use Rattle.std.proofs.Common.{ap, ◌∙◌, append_assoc}
use Rattle.std.specs.Int.{w32, w64, to_be_bytes}
use Rattle.std.specs.List.{AllByRecursion}
use Rattle.wh_frame.specs.Spelling.{text_bytes, list_bytes}
use Rattle.wh_value.specs.Value.{IsText}
use Rattle.wh_state.specs.Dynamic.{DynamicTexts}
use Rattle.wh_state.specs.Spelling.{column_bytes, truth_byte, source_bytes, mode_byte, dynamic_bytes}
use Rattle.wh_state.specs.Spelling.{dynamic_state_bytes, IsSource, IsDynamicChange, IsDynamicState}
use Rattle.wh_part.proofs.ReaderLaws.{AreBytes, Reads, reads_then, reads_list, wide32, wide64, reads_number, reads_text}
use Rattle.wh_record.specs.Decoding.{source_at, query_texts_at, mode_at, dynamic_at, dynamic_state_at}
use Rattle.wh_record.proofs.FieldLaws.{byte_taken, reads_record, five_grouped, six_grouped}
use Rattle.wh_record.proofs.ColumnLaws.{reads_column}
use Rattle.wh_record.proofs.TaskLaws.{reads_truth}

-- ---- queries

reads_source : Reads source_bytes IsSource source_at
unfolding source_at source_bytes
reads_source =
    reads_record source_bytes IsSource source_at
    (λ s. (s.name, s.id)) (λ bytes. refl) (λ s. refl) (λ p. refl) (λ p good. record { name = good.0; id = good.1 })
    (λ s good. (good.name, good.id))
    (reads_then reads_text (λ name _. reads_number wide32))

abbrev query_bytes : DynamicTexts → List ℕ
query_bytes t = text_bytes t.text ++ list_bytes source_bytes t.sources

abbrev AreQueryTexts : DynamicTexts → Type 0
AreQueryTexts t = IsText t.text × ((length t.sources < 2 ^ 32) × AllByRecursion IsSource t.sources)

reads_query_texts : Reads query_bytes AreQueryTexts query_texts_at
unfolding query_texts_at
reads_query_texts =
    reads_record query_bytes AreQueryTexts query_texts_at
    (λ t. (t.text, t.sources)) (λ bytes. refl) (λ t. refl) (λ p. refl) (λ p good. good) (λ t good. good)
    (reads_then reads_text (λ text _. reads_list (reads_number wide32) reads_source))

-- ---- new dynamic tables

mode_takes : (bytes : List ℕ) (b : Bool) (rest : List ℕ) → AreBytes bytes → mode_at bytes ≡ Some (b, rest)
    → (bytes ≡ mode_byte b ∷ [] ++ rest) × Unit {0}
unfolding mode_at
mode_takes [] b rest fits e = absurd cc
mode_takes (zero ∷ bytes) b rest fits e = absurd cc
mode_takes (suc zero ∷ bytes) b rest fits e = byte_taken mode_byte false b bytes rest e
mode_takes (suc (suc zero) ∷ bytes) b rest fits e = byte_taken mode_byte true b bytes rest e
mode_takes (suc (suc (suc mode)) ∷ bytes) b rest fits e = absurd cc

mode_again : (b : Bool) (rest : List ℕ) → Unit {0} → mode_at (mode_byte b ∷ [] ++ rest) ≡ Some (b, rest)
unfolding mode_at
mode_again false rest good = refl
mode_again true rest good = refl

reads_mode : Reads (λ b. mode_byte b ∷ []) (λ b. Unit {0}) mode_at
reads_mode = record { takes = mode_takes; again = mode_again }

-- the mode stands right before the query
dynamic_grouped : (id name lag : List ℕ) (mode : ℕ) (text sources columns : List ℕ)
    → id ++ (name ++ (lag ++ (mode ∷ ((text ++ sources) ++ columns))))
    ≡ id ++ name ++ lag ++ mode ∷ text ++ sources ++ columns
dynamic_grouped id name lag mode text sources columns =
    ap (λ (l : List ℕ). id ++ (name ++ (lag ++ (mode ∷ l)))) (append_assoc text sources columns)
    ∙ six_grouped id name lag (mode ∷ text) sources columns

pub reads_dynamic : Reads dynamic_bytes IsDynamicChange dynamic_at
unfolding dynamic_at dynamic_bytes
reads_dynamic =
    reads_record dynamic_bytes IsDynamicChange dynamic_at
    (λ c. (c.id, (c.name, (c.lag, (c.is_incremental, (c.query, c.columns)))))) (λ bytes. refl) (λ c. refl)
    (λ p. dynamic_grouped (to_be_bytes w32 p.0) (text_bytes p.1.0) (to_be_bytes w32 p.1.1.0) (mode_byte p.1.1.1.0)
    (text_bytes p.1.1.1.1.0.text) (list_bytes source_bytes p.1.1.1.1.0.sources)
    (list_bytes column_bytes p.1.1.1.1.1))
    (λ p good. record {
      id = good.0;
      name = good.1.0;
      lag = good.1.1.0;
      query = good.1.1.1.1.0.0;
      few_sources = good.1.1.1.1.0.1.0;
      sources = good.1.1.1.1.0.1.1;
      few = good.1.1.1.1.1.0;
      columns = good.1.1.1.1.1.1;
    })
    (λ c good. (
      good.id,
      (
        good.name,
        (good.lag, (tt, ((good.query, (good.few_sources, good.sources)), (good.few, good.columns)))),
      ),
    ))
    (reads_then (reads_number wide32) (λ id _. reads_then reads_text (λ name _. reads_then (reads_number wide32)
    (λ lag _. reads_then reads_mode (λ mode _. reads_then reads_query_texts
    (λ query _. reads_list (reads_number wide32) reads_column))))))

-- ---- states

pub reads_dynamic_state : Reads (λ p. dynamic_state_bytes p.0 p.1) (λ p. IsDynamicState p.0 p.1) dynamic_state_at
unfolding dynamic_state_at dynamic_state_bytes
reads_dynamic_state =
    reads_record (λ p. dynamic_state_bytes p.0 p.1) (λ p. IsDynamicState p.0 p.1) dynamic_state_at
    (λ p. (p.0, (p.1.lag, (p.1.is_suspended, (p.1.failures, (p.1.tried, p.1.moment)))))) (λ bytes. refl) (λ p. refl)
    (λ p. five_grouped (to_be_bytes w32 p.0) (to_be_bytes w32 p.1.0) (truth_byte p.1.1.0 ∷ to_be_bytes w32 p.1.1.1.0)
    (to_be_bytes w64 p.1.1.1.1.0) (to_be_bytes w64 p.1.1.1.1.1))
    (λ p good. record {
      id = good.0;
      lag = good.1.0;
      failures = good.1.1.1.0;
      tried = good.1.1.1.1.0;
      moment = good.1.1.1.1.1;
    })
    (λ p good. (good.id, (good.lag, (tt, (good.failures, (good.tried, good.moment))))))
    (reads_then (reads_number wide32) (λ id _. reads_then (reads_number wide32) (λ lag _. reads_then reads_truth
    (λ truth _. reads_then (reads_number wide32) (λ failures _. reads_then (reads_number wide64)
    (λ tried _. reads_number wide64))))))
