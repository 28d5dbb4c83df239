-- Lags, schedules and what asks for data: what is read stands there, and what stands there is read.
use Rattle.std.proofs.Common.{◌≡◌, ℕ, Bool, true, false, List, ◌∷◌, Some, refl, sym, ap, ◌∙◌, subst}
use Rattle.std.specs.Prelude.{codes}
use Rattle.wh_ast.specs.declared.statement.Lag.{Lag}
use Rattle.wh_ast.specs.declared.statement.Lag.TheVariants as lag
use Rattle.wh_grammar.specs.Token as token
use Rattle.wh_grammar.specs.Token.{Token, Word, TextToken, SignToken}
use Rattle.wh_grammar.specs.OptionText.{IsSchedule, IsNameText}
use Rattle.wh_grammar.specs.Parts.{IsLag, downstream, lag_text, AsksForData, asks}
use Rattle.wh_cursor.specs.declared.key.TokenClass.TheVariants as k
use Rattle.wh_cursor.specs.Steps.{tail, sees_word}
use Rattle.wh_option_parse.specs.Laws as laws
use Rattle.wh_option_parse.specs.Read.{lag_of, name_text_of, schedule_of, read_schedule, read_name_text, lag_from}
use Rattle.wh_option_parse.specs.Read.{read_lag, read_asked}
use Rattle.wh_option_parse.proofs.SpanLemmas.{schedule-sound, schedule-complete, lag_text-sound, lag_text-complete}
use Rattle.wh_option_parse.proofs.NameTexts.{name_text-sound, name_text-complete}
use Rattle.wh_cursor.proofs.Yields.{Yields, yields, follow, yielded}
use Rattle.wh_cursor.proofs.Combine.{sees_word_some, then_expect_word, then_expect_key, text-yields}
use Rattle.wh_cursor.proofs.Combine.{given-yields, sees_word_is, text_no_word, read_text_reads}
use Rattle.wh_cursor.proofs.Combine.{expect_word_reads, lparen_reads, rparen_reads}

-- ---- texts

-- a text with a schedule
pub record Scheduled (ts : List Token) (minutes : ℕ) (us : List Token) : Type 0 where
  pub bytes : List ℕ
  pub is : ts ≡ TextToken bytes ∷ us
  pub schedule : IsSchedule bytes minutes

pub schedule_yields : (ts : List Token) → Yields (read_schedule ts) (Scheduled ts)
unfolding read_schedule
schedule_yields ts = follow (text-yields ts) (λ bytes us is.
    given-yields (schedule_of bytes) us (λ n e. record { bytes = bytes; is = is; schedule = schedule-sound bytes n e }))

pub schedule_read : {bytes : List ℕ} {n : ℕ} (us : List Token) → IsSchedule bytes n
    → read_schedule (TextToken bytes ∷ us) ≡ Some (n, us)
unfolding read_schedule
schedule_read {bytes} {n} us h = rw (read_text_reads bytes us, schedule-complete h) refl

-- a text with a name
record NameGiven (ts : List Token) (name : List ℕ) (us : List Token) : Type 0 where
  bytes : List ℕ
  is : ts ≡ TextToken bytes ∷ us
  names : IsNameText bytes name

name_text_yields : (ts : List Token) → Yields (read_name_text ts) (NameGiven ts)
unfolding read_name_text
name_text_yields ts = follow (text-yields ts) (λ bytes us is.
    given-yields (name_text_of bytes) us
    (λ name e. record { bytes = bytes; is = is; names = name_text-sound bytes name e }))

name_read_text_reads : {bytes name : List ℕ} (us : List Token) → IsNameText bytes name
    → read_name_text (TextToken bytes ∷ us) ≡ Some (name, us)
unfolding read_name_text
name_read_text_reads {bytes} {name} us h = rw (read_text_reads bytes us, name_text-complete h) refl

-- ---- lags

pub lag_yields : (ts : List Token) → Yields (read_lag ts) (λ l us. IsLag ts l us)
unfolding read_lag
lag_yields ts = by (sees_word (codes "DOWNSTREAM") ts) (sees_word_some (codes "DOWNSTREAM") ts)
  where
    by : (r : Bool) → (r ≡ true → ts ≡ Word (codes "DOWNSTREAM") ∷ tail ts)
        → Yields (lag_from r ts) (λ l us. IsLag ts l us)
    by true h = yields lag.Downstream (tail ts)
        (subst (λ (vs : List Token). IsLag vs lag.Downstream (tail ts)) (sym (h refl)) downstream)
    by false h = follow (text-yields ts) (λ bytes us is.
        given-yields (lag_of bytes) us
        (λ l e. subst (λ (vs : List Token). IsLag vs l us) (sym is) (lag_text (lag_text-sound bytes l e))))

pub lag_read : {ts us : List Token} {l : Lag} → IsLag ts l us → read_lag ts ≡ Some (l, us)
unfolding read_lag
lag_read (downstream {us}) = rw (sees_word_is (codes "DOWNSTREAM") us) refl
lag_read (lag_text {us} {bytes} {l} h) =
    rw (text_no_word (codes "DOWNSTREAM") bytes us, read_text_reads bytes us, lag_text-complete h) refl

pub lags_read : laws.ReadsLags
lags_read ts l us = (λ e. yielded (lag_yields ts) l us e, λ h. lag_read h)

-- ---- what asks for data

abbrev at_front : List Token → List ℕ → List ℕ → List Token → Type 0
at_front ts bytes name us =
    ts ≡ Word (codes "SYSTEM$STREAM_HAS_DATA") ∷ SignToken token.LParen ∷ TextToken bytes ∷ SignToken token.RParen ∷ us

pub asked_yields : (ts : List Token) → Yields (read_asked ts) (λ name us. AsksForData ts name us)
unfolding read_asked
asked_yields ts =
    then_expect_word (codes "SYSTEM$STREAM_HAS_DATA") ts _ (λ one. then_expect_key k.LParen (tail ts) _ (λ two.
    follow (name_text_yields (tail (tail ts))) (λ name us h. then_expect_key k.RParen us _ (λ close.
    yields name (tail us) (
    let is : at_front ts h.bytes name (tail us) = one
    ∙ ap (λ (vs : List Token). Word (codes "SYSTEM$STREAM_HAS_DATA") ∷ vs) (two
    ∙ ap (λ (vs : List Token). SignToken token.LParen ∷ vs)
    (h.is ∙ ap (λ (vs : List Token). TextToken h.bytes ∷ vs) close)) in
    subst (λ (vs : List Token). AsksForData vs name (tail us)) (sym is) (asks h.names))))))

pub asked_given : {ts us : List Token} {name : List ℕ} → AsksForData ts name us → read_asked ts ≡ Some (name, us)
unfolding read_asked
asked_given (asks {us} {bytes} {name} h) =
    let rest : List Token = SignToken token.RParen ∷ us in
    rw (
      expect_word_reads (codes "SYSTEM$STREAM_HAS_DATA") (SignToken token.LParen ∷ TextToken bytes ∷ rest),
      lparen_reads (TextToken bytes ∷ rest),
      name_read_text_reads rest h,
      rparen_reads us,
    ) refl

pub asked_read : laws.ReadsAsked
asked_read ts name us = (λ e. yielded (asked_yields ts) name us e, λ h. asked_given h)
