-- A text is read as the statement that it spells.
use Rattle.std.proofs.Common.{◌≡◌, ℕ, ◌≤◌, Bool, true, false, if◌then◌else◌, List, [], ◌∷◌, Option, Some, None}
use Rattle.std.proofs.Common.{option_map, Result, Ok, Err, length, refl, sym, ap, ◌∙◌, subst, arith, IsUtf8, ltb}
use Rattle.std.proofs.Common.{ltb-true, lt-ltb, le-ltb, ltb-false}
use Rattle.std.specs.Prelude.{codes, IfOk, IsErrOf}
use Rattle.std.specs.Str.{is_utf8}
use Rattle.std.proofs.lemmas.Option.{same_Some}
use Rattle.std.proofs.lemmas.Str.{IsUtf8-from_is_utf8, is_utf8-from_IsUtf8}
use Rattle.wh_ast.specs.declared.statement.Statement.{Statement}
use Rattle.wh_ast.specs.declared.statement.Statement.TheVariants as st
use Rattle.wh_grammar.specs.Token.{Token, Word, Placed}
use Rattle.wh_grammar.specs.Lexing.{HasTokens}
use Rattle.wh_grammar.specs.Spelled as g
use Rattle.wh_grammar.specs.Spelled.{IsPlain, IsStatement, Spells, Request, TooLong, Unreadable, Asks, tokens_of}
use Rattle.wh_lex.specs.Read.{read_tokens}
use Rattle.wh_lex.proofs.ReadLaws.{tokens_read}
use Rattle.wh_cursor.specs.declared.fault.ParseFault.{ParseFault}
use Rattle.wh_cursor.specs.declared.fault.ParseFault.TheVariants as faults
use Rattle.wh_cursor.specs.Steps.{tail, sees_word}
use Rattle.wh_cursor.proofs.Yields.{Yields, Is, yields, nothing, follow, mapped}
use Rattle.wh_cursor.proofs.Combine.{sees_word_some}
use Rattle.wh_stmt_parse.specs.declared.verb.Verb.{Verb}
use Rattle.wh_stmt_parse.specs.declared.verb.Verb.TheVariants as verb
use Rattle.wh_stmt_parse.specs.declared.verb.Object.{Object}
use Rattle.wh_stmt_parse.specs.declared.verb.Object.TheVariants as object
use Rattle.wh_stmt_parse.specs.Gives.{Gives}
use Rattle.wh_stmt_parse.specs.Laws as laws
use Rattle.wh_stmt_parse.specs.Read.{verb_of, object_of, create_by, read_create, by_verb, read_words, read_all}
use Rattle.wh_stmt_parse.specs.Read.{statement_of, of_tokens, read_statement}
use Rattle.wh_cursor.specs.Steps.{read_end}
use Rattle.wh_stmt_parse.specs.Request.{request_by, request_of}
use Rattle.wh_stmt_parse.proofs.KeptComplete.{words-read}
use Rattle.wh_stmt_parse.proofs.KeptSound.{task-sound, dynamic_table-sound}
use Rattle.wh_stmt_parse.proofs.Carrying.{stand, cons}
use Rattle.wh_cursor.proofs.Combine.{end-yields}
use Rattle.wh_stmt_parse.proofs.PlainSound.{select-sound, change-sound, table-sound, replacement-sound}
use Rattle.wh_stmt_parse.proofs.PlainSound.{stream-sound, alter-sound, execute-sound, drop-sound, begin-sound}
use Rattle.wh_stmt_parse.proofs.PlainSound.{start-sound, ending-sound}
use Rattle.wh_stmt_parse.proofs.Readers.{Readers}

-- ---- what the first words say

by_test : {X : Type 0} (P : X → Type 0) (r : Bool) {x y : X} → (r ≡ true → P x) → P y → P (if r then x else y)
by_test P true f g = f refl
by_test P false f g = g

abbrev Begins : List ℕ → List Token → Type 0
Begins w ts = ts ≡ Word w ∷ tail ts

abbrev AtVerb : List Token → Verb → Type 0
AtVerb ts verb.Select = Begins (codes "SELECT") ts
AtVerb ts verb.Create = Begins (codes "CREATE") ts
AtVerb ts verb.Alter = Begins (codes "ALTER") ts
AtVerb ts verb.Execute = Begins (codes "EXECUTE") ts
AtVerb ts verb.Drop = Begins (codes "DROP") ts
AtVerb ts verb.Begin = Begins (codes "BEGIN") ts
AtVerb ts verb.Start = Begins (codes "START") ts
AtVerb ts verb.Commit = Begins (codes "COMMIT") ts
AtVerb ts verb.Rollback = Begins (codes "ROLLBACK") ts
AtVerb ts verb.Change = Unit {0}

at_verb : (ts : List Token) → AtVerb ts (verb_of ts)
unfolding verb_of
at_verb ts =
    by_test (AtVerb ts) (sees_word (codes "SELECT") ts) (sees_word_some (codes "SELECT") ts) (
    by_test (AtVerb ts) (sees_word (codes "CREATE") ts) (sees_word_some (codes "CREATE") ts) (
    by_test (AtVerb ts) (sees_word (codes "ALTER") ts) (sees_word_some (codes "ALTER") ts) (
    by_test (AtVerb ts) (sees_word (codes "EXECUTE") ts) (sees_word_some (codes "EXECUTE") ts) (
    by_test (AtVerb ts) (sees_word (codes "DROP") ts) (sees_word_some (codes "DROP") ts) (
    by_test (AtVerb ts) (sees_word (codes "BEGIN") ts) (sees_word_some (codes "BEGIN") ts) (
    by_test (AtVerb ts) (sees_word (codes "START") ts) (sees_word_some (codes "START") ts) (
    by_test (AtVerb ts) (sees_word (codes "COMMIT") ts) (sees_word_some (codes "COMMIT") ts) (
    by_test (AtVerb ts) (sees_word (codes "ROLLBACK") ts) (sees_word_some (codes "ROLLBACK") ts) tt))))))))

abbrev AtObject : List Token → Object → Type 0
AtObject ts object.Table = Begins (codes "TABLE") ts
AtObject ts object.Replacement = Begins (codes "OR") ts
AtObject ts object.Stream = Begins (codes "STREAM") ts
AtObject ts object.Task = Begins (codes "TASK") ts
AtObject ts object.DynamicTable = Begins (codes "DYNAMIC") ts
AtObject ts object.Nothing = Unit {0}

at_object : (ts : List Token) → AtObject ts (object_of ts)
unfolding object_of
at_object ts =
    by_test (AtObject ts) (sees_word (codes "TABLE") ts) (sees_word_some (codes "TABLE") ts) (
    by_test (AtObject ts) (sees_word (codes "OR") ts) (sees_word_some (codes "OR") ts) (
    by_test (AtObject ts) (sees_word (codes "STREAM") ts) (sees_word_some (codes "STREAM") ts) (
    by_test (AtObject ts) (sees_word (codes "TASK") ts) (sees_word_some (codes "TASK") ts) (
    by_test (AtObject ts) (sees_word (codes "DYNAMIC") ts) (sees_word_some (codes "DYNAMIC") ts) tt))))

-- ---- what is read is spelled

module _ (r : Readers) (text : List ℕ) (placed : List Placed) where
  abbrev Stated : Statement → List Token → Type 0
  Stated s us = us ≡ [] → IsStatement text placed s

  -- of tokens with that front
  plainly : {o : Option (Statement × List Token)} {fs : List Token} → tokens_of placed ≡ fs
      → Yields o (λ s us. us ≡ [] → IsPlain fs s)
      → Yields o Stated
  plainly e h = mapped h (λ s us i end. g.plain (stand (λ (ts : List Token). IsPlain ts s) e (i end)))

  create-sound : (ts : List Token) → tokens_of placed ≡ Word (codes "CREATE") ∷ ts
      → Yields (read_create text placed ts) Stated
  unfolding read_create
  create-sound ts e = by (object_of ts) (at_object ts)
    where
      by : (o : Object) → AtObject ts o → Yields (create_by text placed o ts) Stated
      by object.Table w = plainly (e ∙ cons _ w) (table-sound (tail ts))
      by object.Replacement w = plainly (e ∙ cons _ w) (replacement-sound (tail ts))
      by object.Stream w = plainly (e ∙ cons _ w) (stream-sound (tail ts))
      by object.Task w = task-sound r text placed (tail ts) (e ∙ cons _ w)
      by object.DynamicTable w = dynamic_table-sound r text placed (tail ts) (e ∙ cons _ w)
      by object.Nothing w = nothing

  words-sound : (ts : List Token) → tokens_of placed ≡ ts → Yields (read_words text placed ts) Stated
  unfolding read_words
  words-sound ts e = by (verb_of ts) (at_verb ts)
    where
      by : (v : Verb) → AtVerb ts v → Yields (by_verb text placed v ts) Stated
      by verb.Select w = plainly e (select-sound r.queries r.asked ts w)
      by verb.Create w = create-sound (tail ts) (e ∙ w)
      by verb.Alter w = plainly (e ∙ w) (alter-sound r.lags (tail ts))
      by verb.Execute w = plainly (e ∙ w) (execute-sound (tail ts))
      by verb.Drop w = plainly (e ∙ w) (drop-sound (tail ts))
      by verb.Begin w = plainly (e ∙ w) (begin-sound (tail ts))
      by verb.Start w = plainly (e ∙ w) (start-sound (tail ts))
      by verb.Commit w =
          plainly (e ∙ w) (ending-sound st.Commit (λ ts. Word (codes "COMMIT") ∷ ts)
          (λ ts h. g.of_transaction (g.commit h)) (tail ts))
      by verb.Rollback w = plainly (e ∙ w)
          (ending-sound st.Rollback (λ ts. Word (codes "ROLLBACK") ∷ ts)
          (λ ts h. g.of_transaction (g.rollback h)) (tail ts))
      by verb.Change w = plainly e (change-sound r.dml ts)

  all-sound : (ts : List Token) → tokens_of placed ≡ ts
      → Yields (read_all text placed ts) (λ s us. IsStatement text placed s)
  unfolding read_all
  all-sound ts e = follow (words-sound ts e) (λ s us h. follow (end-yields us) (λ _ vs i. yields s vs (h i.0)))

  of-sound : (o : Option (Statement × List Token)) (s : Statement) → Is (λ s us. IsStatement text placed s) o
      → option_map (λ p. p.0) o ≡ Some s
      → IsStatement text placed s
  of-sound None s h e = absurd (cc)
  of-sound (Some p) s h e = subst (IsStatement text placed) (same_Some _ _ e) h

  statement-sound : (s : Statement) → statement_of text placed ≡ Some s → IsStatement text placed s
  unfolding statement_of
  statement-sound s e = of-sound (read_all text placed (tokens_of placed)) s (all-sound (tokens_of placed) refl).is e

all-complete : (text : List ℕ) (placed : List Placed) (ts : List Token) (s : Statement)
    → read_words text placed ts ≡ Some (s, [])
    → read_all text placed ts ≡ Some (s, [])
unfolding read_all read_end
all-complete text placed ts s h = rw h refl

statement-complete : Readers → (text : List ℕ) (placed : List Placed) (s : Statement) → IsUtf8 text
    → HasTokens text placed → IsStatement text placed s
    → statement_of text placed ≡ Some s
unfolding statement_of
statement-complete r text placed s utf8 tokens h =
    rw (all-complete text placed (tokens_of placed) s (words-read text placed utf8 tokens r h)) refl

-- ---- texts

tokens-sound : Readers → (text : List ℕ) (s : Statement) → IsUtf8 text → (o : Option (List Placed))
    → read_tokens text ≡ o → of_tokens text o ≡ Some s → Spells text s
tokens-sound r text s utf8 None e h = absurd (cc)
tokens-sound r text s utf8 (Some placed) e h =
    record {
      utf8 = utf8;
      placed = placed;
      tokens = (tokens_read text placed).0 e;
      is_statement = statement-sound r text placed s h;
    }

text-sound : Readers → (text : List ℕ) (s : Statement) → read_statement text ≡ Some s → Spells text s
unfolding read_statement
text-sound r text s h = by (is_utf8 text) refl h
  where
    by : (utf8 : Bool) → is_utf8 text ≡ utf8 → (if utf8 then of_tokens text (read_tokens text) else None) ≡ Some s
        → Spells text s
    by true u h = tokens-sound r text s (IsUtf8-from_is_utf8 text u) (read_tokens text) refl h
    by false u h = absurd (cc)

text-complete : Readers → (text : List ℕ) (s : Statement) → Spells text s → read_statement text ≡ Some s
unfolding read_statement
text-complete r text s h =
    rw (is_utf8-from_IsUtf8 text h.utf8, (tokens_read text h.placed).1 h.tokens)
    (statement-complete r text h.placed s h.utf8 h.tokens h.is_statement)

pub texts-read : Readers → laws.ReadsTexts
texts-read r text s = (text-sound r text s, text-complete r text s)

pub fixes-statement : Readers → laws.TextFixesStatement
fixes-statement r text s t h k = same_Some _ _ (sym (text-complete r text s h) ∙ text-complete r text t k)

-- ---- requests

not_long : (n : ℕ) → ltb 65536 n ≡ false → n ≤ 65536
not_long n e = let short = ltb-false 65536 n e in omega (arith, short)

-- a text that is read as none spells none
pub none-spelled : Readers → (text : List ℕ) → read_statement text ≡ None → (s : Statement) → Spells text s → ⊥
none-spelled r text e s h = let k = sym e ∙ text-complete r text s h in cc

short-request : Readers → (text : List ℕ) → length text ≤ 65536 → (o : Option Statement) → read_statement text ≡ o
    → Asks text (request_by o)
short-request r text short None e = g.spells_none short (none-spelled r text e)
short-request r text short (Some s) e = g.spells s short (text-sound r text s e)

request-asked : Readers → (text : List ℕ) → Asks text (request_of text)
unfolding request_of
request-asked r text = by (ltb 65536 (length text)) refl
  where
    by : (long : Bool) → ltb 65536 (length text) ≡ long
        → Asks text (if long then TooLong else request_by (read_statement text))
    by true e = g.is_long (ltb-true 65536 (length text) e)
    by false e = short-request r text (not_long (length text) e) (read_statement text) refl

none-read : Readers → (text : List ℕ) → ((s : Statement) → Spells text s → ⊥) → (o : Option Statement)
    → read_statement text ≡ o → request_by o ≡ Unreadable
none-read r text none None e = refl
none-read r text none (Some s) e = absurd (none s (text-sound r text s e))

request-is : Readers → (text : List ℕ) (q : Request) → Asks text q → request_of text ≡ q
unfolding request_of
request-is r text _ (g.is_long long) = rw (lt-ltb 65536 (length text) long) refl
request-is r text _ (g.spells_none short none) =
    rw (le-ltb 65536 (length text) short) (none-read r text none (read_statement text) refl)
request-is r text _ (g.spells s short h) =
    rw (le-ltb 65536 (length text) short) (ap request_by (text-complete r text s h))

pub requests-read : Readers → laws.ReadsRequests
requests-read r text q = (λ e. subst (Asks text) e (request-asked r text), request-is r text q)

-- ---- for what a call returned

pub found : Readers → (text : List ℕ) (given : Result Statement ParseFault) → Gives given (read_statement text)
    → IfOk given (λ s. Spells text s)
found r text (Ok s) h = text-sound r text s h
found r text (Err fault) h = tt

pub none : Readers → (text : List ℕ) (given : Result Statement ParseFault) → Gives given (read_statement text)
    → IsErrOf given faults.SyntaxError → (s : Statement) → Spells text s
    → ⊥
none r text (Ok s) h failed = absurd (cc)
none r text (Err faults.SyntaxError) h failed = none-spelled r text h
none r text (Err faults.OutOfMemory) h failed = absurd (cc)
