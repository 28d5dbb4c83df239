-- Options of dynamic tables: what is read stands there, and what stands there is read.
use Rattle.std.proofs.Common.{◌≡◌, ℕ, zero, suc, ◌+◌, ◌<◌, ◌≤◌, Bool, true, false, not, ◌||◌, if◌then◌else◌, List, []}
use Rattle.std.proofs.Common.{◌∷◌, ◌++◌, length, Option, Some, None, Result, Ok, Err, IfOk, refl, sym, ap, ◌∙◌, subst}
use Rattle.std.proofs.Common.{bytes_eq, append-nil, arith}
use Rattle.std.specs.Prelude.{codes, unwrap_or, IsErrOf}
use Rattle.std.proofs.lemmas.Option.{same_Some}
use Rattle.std.proofs.lemmas.Slice.Eq.{bytes_eq-Decides}
use Rattle.wh_ast.specs.declared.statement.Lag.{Lag}
use Rattle.wh_ast.specs.declared.statement.RefreshMode.{RefreshMode}
use Rattle.wh_ast.specs.declared.statement.RefreshMode.TheVariants as mode
use Rattle.wh_ast.specs.declared.statement.Initialize.{Initialize}
use Rattle.wh_ast.specs.declared.statement.Initialize.TheVariants as init
use Rattle.wh_grammar.specs.Token as token
use Rattle.wh_grammar.specs.Token.{Token, Word, Quoted, TextToken, NumberToken, SignToken}
use Rattle.wh_grammar.specs.Name.{IsName}
use Rattle.wh_grammar.specs.Parts as g
use Rattle.wh_grammar.specs.Parts.{IsLag, IsMode, IsInitialize, IsChosen, TableOption, AreTableOptions}
use Rattle.wh_grammar.specs.Parts.{TableOptionsGive, lags_in, modes_in, initialized_in, warehouses_in}
use Rattle.wh_cursor.specs.declared.key.TokenClass.TheVariants as k
use Rattle.wh_cursor.specs.Steps.{tail, sees_word, read_word}
use Rattle.wh_cursor.specs.declared.fault.ParseFault.{ParseFault}
use Rattle.wh_cursor.specs.declared.fault.ParseFault.TheVariants as faults
use Rattle.wh_cursor.specs.Gives.{Reads}
use Rattle.wh_option_parse.specs.declared.table.TableOptions.{TableOptions}
use Rattle.wh_option_parse.specs.declared.table.TableParts.{TableParts}
use Rattle.wh_option_parse.specs.View.{seen}
use Rattle.wh_option_parse.specs.Follow.{ends_table_options, AreTableOptionsAt}
use Rattle.wh_option_parse.specs.Laws as laws
use Rattle.wh_option_parse.specs.Read.{is_some, mode_of, initialize_of, worded, table_lag, table_warehouse, table_mode}
use Rattle.wh_option_parse.specs.Read.{table_initialize, table_option_by, table_option, no_table_parts, options_from}
use Rattle.wh_option_parse.specs.Read.{read_table_options}
use Rattle.wh_cursor.proofs.Yields.{Yields, yields, follow, yielded}
use Rattle.wh_cursor.proofs.Combine.{sees_word_some, name-yields, word-yields, then_given}
use Rattle.wh_cursor.proofs.Combine.{then_expect_key, equal_reads, name_reads}
use Rattle.wh_option_parse.proofs.Options.{then_once}
use Rattle.wh_option_parse.proofs.LagLemmas.{lag_yields, lag_read}
use Rattle.wh_option_parse.proofs.Options.{then_put, puts, More, Stepped, options_yield, options_end, options_more}

abbrev parts_of : Option Lag → Bool → Option RefreshMode → Option Initialize → TableParts
parts_of l w m i = record { lag = l; warehouse = w; mode = m; initialize = i }

abbrev with_lag : TableParts → Lag → TableParts
with_lag parts l = parts_of (Some l) parts.warehouse parts.mode parts.initialize

abbrev with_warehouse : TableParts → TableParts
with_warehouse parts = parts_of parts.lag true parts.mode parts.initialize

abbrev with_mode : TableParts → RefreshMode → TableParts
with_mode parts m = parts_of parts.lag parts.warehouse (Some m) parts.initialize

abbrev with_initialize : TableParts → Initialize → TableParts
with_initialize parts i = parts_of parts.lag parts.warehouse parts.mode (Some i)

abbrev put : TableParts → TableOption → Option TableParts
put parts (g.TargetLag l) = if is_some parts.lag then None else Some (with_lag parts l)
put parts g.TableWarehouse = if parts.warehouse then None else Some (with_warehouse parts)
put parts (g.Mode m) = if is_some parts.mode then None else Some (with_mode parts m)
put parts (g.Initialized i) = if is_some parts.initialize then None else Some (with_initialize parts i)

-- ---- what is read stands there

unseen-ends : (ts : List Token) → sees_word (codes "TARGET_LAG") ts ≡ false → sees_word (codes "WAREHOUSE") ts ≡ false
    → sees_word (codes "REFRESH_MODE") ts ≡ false → sees_word (codes "INITIALIZE") ts ≡ false
    → ends_table_options ts ≡ true
unfolding sees_word
unseen-ends [] a b c d = refl
unseen-ends (Word w ∷ us) a b c d = rw (a, b, c, d) refl
unseen-ends (Quoted name ∷ us) a b c d = refl
unseen-ends (TextToken bytes ∷ us) a b c d = refl
unseen-ends (NumberToken n ∷ us) a b c d = refl
unseen-ends (SignToken s ∷ us) a b c d = refl

front : (w : List ℕ) (ts us : List Token) → ts ≡ Word w ∷ tail ts → tail ts ≡ SignToken token.Equal ∷ tail (tail ts)
    → tail (tail ts) ≡ us
    → ts ≡ Word w ∷ SignToken token.Equal ∷ us
front w ts us one two three =
    one ∙ ap (λ (vs : List Token). Word w ∷ vs) (two ∙ ap (λ (vs : List Token). SignToken token.Equal ∷ vs) three)

lag-sound : (parts : TableParts) (ts : List Token) → ts ≡ Word (codes "TARGET_LAG") ∷ tail ts
    → Yields (table_lag parts (tail ts)) (More put AreTableOptions parts ts)
unfolding table_lag
lag-sound parts ts is = then_once (is_some parts.lag) (tail ts) _
    (λ free. then_expect_key k.Equal (tail ts) _ (λ equal. follow (lag_yields (tail (tail ts))) (λ l us n.
    yields (with_lag parts l) us (record {
      one = g.TargetLag l;
      adds = rw free refl;
      before = λ more vs are. subst (λ (ts : List Token). AreTableOptions ts (g.TargetLag l ∷ more) vs)
          (sym (front (codes "TARGET_LAG") ts _ is equal refl)) (g.target_lag n are);
    }))))

warehouse-sound : (parts : TableParts) (ts : List Token) → ts ≡ Word (codes "WAREHOUSE") ∷ tail ts
    → Yields (table_warehouse parts (tail ts)) (More put AreTableOptions parts ts)
unfolding table_warehouse
warehouse-sound parts ts is = then_once parts.warehouse (tail ts) _
    (λ free. then_expect_key k.Equal (tail ts) _ (λ equal. follow (name-yields (tail (tail ts))) (λ name us n.
    yields (with_warehouse parts) us (record {
      one = g.TableWarehouse;
      adds = rw free refl;
      before = λ more vs are. subst (λ (ts : List Token). AreTableOptions ts (g.TableWarehouse ∷ more) vs)
          (sym (front (codes "WAREHOUSE") ts _ is equal refl)) (g.table_warehouse n are);
    }))))

word_case : {A : Type 0} (Q : Option A → Type 0) (w c : List ℕ) (x rest : Option A) → (w ≡ c → Q x) → Q rest
    → Q (if bytes_eq w c then x else rest)
word_case Q w c x rest f h = by (bytes_eq w c) (λ e. f ((bytes_eq-Decides w c).0 e))
  where
    by : (r : Bool) → (r ≡ true → Q x) → Q (if r then x else rest)
    by true g = g refl
    by false g = h

abbrev Says : {A : Type 0} → (Token → A → Type 0) → List ℕ → A → Option A → Type 0
Says R w x o = o ≡ Some x → R (Word w) x

says : {A : Type 0} (R : Token → A → Type 0) (w c : List ℕ) (x y : A) → R (Word c) y → w ≡ c → Says R w x (Some y)
says R w c x y h is e = subst (R (Word w)) (same_Some _ _ e) (subst (λ (v : List ℕ). R (Word v) y) (sym is) h)

abbrev of_incremental : List ℕ → Option RefreshMode
of_incremental w = if bytes_eq w (codes "INCREMENTAL") then Some mode.Incremental else None

abbrev of_full : List ℕ → Option RefreshMode
of_full w = if bytes_eq w (codes "FULL") then Some mode.Full else of_incremental w

mode_of-sound : (w : List ℕ) (m : RefreshMode) → mode_of w ≡ Some m → IsMode (Word w) m
mode_of-sound w m =
    let none : Says IsMode w m None = λ e. absurd (cc) in
    word_case (Says IsMode w m) w (codes "AUTO") (Some mode.Auto) (of_full w) (says IsMode w _ m mode.Auto g.auto)
    (word_case (Says IsMode w m) w (codes "FULL") (Some mode.Full) (of_incremental w)
    (says IsMode w _ m mode.Full g.full)
    (word_case (Says IsMode w m) w (codes "INCREMENTAL") (Some mode.Incremental) None
    (says IsMode w _ m mode.Incremental g.incremental) none))

abbrev of_schedule : List ℕ → Option Initialize
of_schedule w = if bytes_eq w (codes "ON_SCHEDULE") then Some init.OnSchedule else None

initialize_of-sound : (w : List ℕ) (i : Initialize) → initialize_of w ≡ Some i → IsInitialize (Word w) i
initialize_of-sound w i =
    let none : Says IsInitialize w i None = λ e. absurd (cc) in
    word_case (Says IsInitialize w i) w (codes "ON_CREATE") (Some init.OnCreate) (of_schedule w)
    (says IsInitialize w _ i init.OnCreate g.on_create)
    (word_case (Says IsInitialize w i) w (codes "ON_SCHEDULE") (Some init.OnSchedule) None
    (says IsInitialize w _ i init.OnSchedule g.on_schedule) none)

-- a word behind a name and an equals sign
worded-sound : {X : Type 0} (name : List ℕ) (is_given : Bool) (value_of : List ℕ → Option X) (with_it : X → TableParts)
    (option : X → TableOption) (parts : TableParts) (ts : List Token)
    → ((x : X) → is_given ≡ false → put parts (option x) ≡ Some (with_it x))
    → ((w : List ℕ) (x : X) (more : List TableOption) (us vs : List Token) → value_of w ≡ Some x
    → AreTableOptions us more vs
    → AreTableOptions (Word name ∷ SignToken token.Equal ∷ Word w ∷ us) (option x ∷ more) vs)
    → ts ≡ Word name ∷ tail ts
    → Yields (worded is_given value_of with_it (tail ts)) (More put AreTableOptions parts ts)
worded-sound name is_given value_of with_it option parts ts adds stands is = then_once is_given (tail ts) _
    (λ free. then_expect_key k.Equal (tail ts) _ (λ equal. follow (word-yields (tail (tail ts))) (λ w us n.
    then_given (value_of w) us _ (λ x e.
    yields (with_it x) us (record {
      one = option x;
      adds = adds x free;
      before = λ more vs are. subst (λ (ts : List Token). AreTableOptions ts (option x ∷ more) vs)
          (sym (front name ts _ is equal n)) (stands w x more us vs e are);
    })))))

mode-sound : (parts : TableParts) (ts : List Token) → ts ≡ Word (codes "REFRESH_MODE") ∷ tail ts
    → Yields (table_mode parts (tail ts)) (More put AreTableOptions parts ts)
unfolding table_mode
mode-sound parts ts is =
    worded-sound (codes "REFRESH_MODE") (is_some parts.mode) mode_of (with_mode parts) g.Mode parts ts
    (λ m free. rw free refl) (λ w m more us vs e are. g.refresh_mode (mode_of-sound w m e) are) is

initialize-sound : (parts : TableParts) (ts : List Token) → ts ≡ Word (codes "INITIALIZE") ∷ tail ts
    → Yields (table_initialize parts (tail ts)) (More put AreTableOptions parts ts)
unfolding table_initialize
initialize-sound parts ts is =
    worded-sound (codes "INITIALIZE") (is_some parts.initialize) initialize_of (with_initialize parts) g.Initialized
    parts ts (λ i free. rw free refl) (λ w i more us vs e are. g.initialize (initialize_of-sound w i e) are) is

option_yields : (parts : TableParts) (ts : List Token)
    → Yields (table_option parts ts) (Stepped put AreTableOptions ends_table_options parts ts)
unfolding table_option
option_yields parts ts = by (sees_word (codes "TARGET_LAG") ts) (sees_word (codes "WAREHOUSE") ts)
    (sees_word (codes "REFRESH_MODE") ts) (sees_word (codes "INITIALIZE") ts) refl refl refl refl
  where
    by : (l w m i : Bool) → sees_word (codes "TARGET_LAG") ts ≡ l → sees_word (codes "WAREHOUSE") ts ≡ w
        → sees_word (codes "REFRESH_MODE") ts ≡ m → sees_word (codes "INITIALIZE") ts ≡ i
        → Yields (table_option_by parts l w m i ts) (Stepped put AreTableOptions ends_table_options parts ts)
    by true w m i a b c d =
        follow (lag-sound parts ts (sees_word_some (codes "TARGET_LAG") ts a)) (λ next us h. yields (Some next) us h)
    by false true m i a b c d = follow (warehouse-sound parts ts (sees_word_some (codes "WAREHOUSE") ts b))
        (λ next us h. yields (Some next) us h)
    by false false true i a b c d =
        follow (mode-sound parts ts (sees_word_some (codes "REFRESH_MODE") ts c)) (λ next us h. yields (Some next) us h)
    by false false false true a b c d = follow (initialize-sound parts ts (sees_word_some (codes "INITIALIZE") ts d))
        (λ next us h. yields (Some next) us h)
    by false false false false a b c d = yields None ts (refl, unseen-ends ts a b c d)

-- ---- what was put is what the options have

abbrev listed : {A : Type 0} → Option A → List A
listed None = []
listed (Some x) = x ∷ []

abbrev counted : Bool → ℕ
counted true = 1
counted false = 0

record Gathers (parts : TableParts) (options : List TableOption) (q : TableParts) : Type 0 where
  lags : listed parts.lag ++ lags_in options ≡ listed q.lag
  modes : listed parts.mode ++ modes_in options ≡ listed q.mode
  inits : listed parts.initialize ++ initialized_in options ≡ listed q.initialize
  warehouses : counted parts.warehouse + warehouses_in options ≡ counted q.warehouse

none-from : {A : Type 0} (o : Option A) → is_some o ≡ false → o ≡ None
none-from None e = refl
none-from (Some x) e = absurd (cc)

if_free : {A : Type 0} (b : Bool) (next : TableParts) (f : TableParts → Option TableParts) (q : TableParts)
    → then_put (if b then None else Some next) f ≡ Some q → (b ≡ false → f next ≡ Some q → A)
    → A
if_free true next f q e k = absurd (cc)
if_free false next f q e k = k refl e

put_first : {A : Type 0} (o : Option A) (x : A) (more : List A) (whole : List A) → is_some o ≡ false → x ∷ more ≡ whole
    → listed o ++ (x ∷ more) ≡ whole
put_first None x more whole e h = h
put_first (Some y) x more whole e h = absurd (cc)

count_first : (b : Bool) (n m : ℕ) → b ≡ false → 1 + n ≡ m → counted b + suc n ≡ m
count_first true n m e h = absurd (cc)
count_first false n m e h = omega (arith, h)

gathers : (options : List TableOption) (parts q : TableParts) → puts put parts options ≡ Some q
    → Gathers parts options q
gathers [] parts q e = subst (Gathers parts []) (same_Some _ _ e) (record {
  lags = append-nil (listed parts.lag);
  modes = append-nil (listed parts.mode);
  inits = append-nil (listed parts.initialize);
  warehouses = omega arith;
})
gathers (g.TargetLag l ∷ more) parts q e =
    if_free (is_some parts.lag) (with_lag parts l) (λ next. puts put next more) q e (λ free rest.
    let i = gathers more (with_lag parts l) q rest in
    record {
      lags = put_first parts.lag l (lags_in more) (listed q.lag) free i.lags;
      modes = i.modes;
      inits = i.inits;
      warehouses = i.warehouses;
    })
gathers (g.TableWarehouse ∷ more) parts q e =
    if_free parts.warehouse (with_warehouse parts) (λ next. puts put next more) q e (λ free rest.
    let i = gathers more (with_warehouse parts) q rest in
    record {
      lags = i.lags;
      modes = i.modes;
      inits = i.inits;
      warehouses = count_first parts.warehouse (warehouses_in more) (counted q.warehouse) free i.warehouses;
    })
gathers (g.Mode m ∷ more) parts q e =
    if_free (is_some parts.mode) (with_mode parts m) (λ next. puts put next more) q e (λ free rest.
    let i = gathers more (with_mode parts m) q rest in
    record {
      lags = i.lags;
      modes = put_first parts.mode m (modes_in more) (listed q.mode) free i.modes;
      inits = i.inits;
      warehouses = i.warehouses;
    })
gathers (g.Initialized i ∷ more) parts q e =
    if_free (is_some parts.initialize) (with_initialize parts i) (λ next. puts put next more) q e (λ free rest.
    let h = gathers more (with_initialize parts i) q rest in
    record {
      lags = h.lags;
      modes = h.modes;
      inits = put_first parts.initialize i (initialized_in more)
          (listed q.initialize) free h.inits;
      warehouses = h.warehouses;
    })

chosen : {A : Type 0} (default : A) (o : Option A) → IsChosen default (listed o) (unwrap_or o default)
chosen default None = g.by_default
chosen default (Some x) = g.as_written

few-counted : (b : Bool) → counted b ≤ 1
few-counted true = omega arith
few-counted false = omega arith

give : (options : List TableOption) (q : TableParts) (l : Lag) → puts put no_table_parts options ≡ Some q
    → q.lag ≡ Some l
    → TableOptionsGive options l (unwrap_or q.mode mode.Auto) (unwrap_or q.initialize init.OnCreate)
give options q l e is =
    let i = gathers options no_table_parts q e in
    let most = few-counted q.warehouse in
    let all = i.warehouses in
    record {
      lag = i.lags ∙ ap (λ (o : Option Lag). listed o) is;
      mode = subst (λ (ms : List RefreshMode). IsChosen mode.Auto ms (unwrap_or q.mode mode.Auto)) (sym i.modes)
          (chosen mode.Auto q.mode);
      initialize = subst (λ (is : List Initialize). IsChosen init.OnCreate is (unwrap_or q.initialize init.OnCreate))
          (sym i.inits) (chosen init.OnCreate q.initialize);
      warehouse = omega (arith, most, all);
    }

-- what the three options say
abbrev AtTriple : List Token → Lag × (RefreshMode × Initialize) → List Token → Type 0
AtTriple ts p us = AreTableOptionsAt ts p.0 p.1.0 p.1.1 us

table_yields : (ts : List Token) → Yields (read_table_options ts) (AtTriple ts)
unfolding read_table_options
table_yields ts = follow (options_yield put AreTableOptions ends_table_options table_option
    (λ ts. g.no_more_table) option_yields 5 no_table_parts ts) (λ q us h.
    then_given q.lag us _ (λ l is.
    yields (l, (unwrap_or q.mode mode.Auto, unwrap_or q.initialize init.OnCreate)) us
    (record { options = h.options; are = h.are; give = give h.options q l h.puts_all is; ends = h.end })))

-- ---- what stands there is read

unseen-by : (a b c d : Bool) → not (a || b || c || d) ≡ true → (a ≡ false) × (b ≡ false) × (c ≡ false) × (d ≡ false)
unseen-by true b c d h = absurd (cc)
unseen-by false true c d h = absurd (cc)
unseen-by false false true d h = absurd (cc)
unseen-by false false false true h = absurd (cc)
unseen-by false false false false h = (refl, refl, refl, refl)

abbrev Unseen : List Token → Type 0
Unseen ts = (sees_word (codes "TARGET_LAG") ts ≡ false) × (sees_word (codes "WAREHOUSE") ts ≡ false)
    × (sees_word (codes "REFRESH_MODE") ts ≡ false) × (sees_word (codes "INITIALIZE") ts ≡ false)

ends-unseen : (ts : List Token) → ends_table_options ts ≡ true → Unseen ts
unfolding sees_word
ends-unseen [] h = (refl, refl, refl, refl)
ends-unseen (Word w ∷ us) h = unseen-by (bytes_eq w (codes "TARGET_LAG")) (bytes_eq w (codes "WAREHOUSE"))
    (bytes_eq w (codes "REFRESH_MODE")) (bytes_eq w (codes "INITIALIZE")) h
ends-unseen (Quoted name ∷ us) h = (refl, refl, refl, refl)
ends-unseen (TextToken bytes ∷ us) h = (refl, refl, refl, refl)
ends-unseen (NumberToken n ∷ us) h = (refl, refl, refl, refl)
ends-unseen (SignToken s ∷ us) h = (refl, refl, refl, refl)

ended : (parts : TableParts) (ts : List Token) → ends_table_options ts ≡ true → table_option parts ts ≡ Some (None, ts)
unfolding table_option
ended parts ts h = let none = ends-unseen ts h in rw (none.0, none.1, none.2, none.3) refl

-- which of the four words comes next
abbrev Sees : List Token → Bool → Bool → Bool → Bool → Type 0
Sees ts l w m i = (sees_word (codes "TARGET_LAG") ts ≡ l) × (sees_word (codes "WAREHOUSE") ts ≡ w)
    × (sees_word (codes "REFRESH_MODE") ts ≡ m) × (sees_word (codes "INITIALIZE") ts ≡ i)

sees-lag : (us : List Token) → Sees (Word (codes "TARGET_LAG") ∷ us) true false false false
unfolding sees_word
sees-lag us = (refl, refl, refl, refl)

sees-warehouse : (us : List Token) → Sees (Word (codes "WAREHOUSE") ∷ us) false true false false
unfolding sees_word
sees-warehouse us = (refl, refl, refl, refl)

sees-mode : (us : List Token) → Sees (Word (codes "REFRESH_MODE") ∷ us) false false true false
unfolding sees_word
sees-mode us = (refl, refl, refl, refl)

sees-initialize : (us : List Token) → Sees (Word (codes "INITIALIZE") ∷ us) false false false true
unfolding sees_word
sees-initialize us = (refl, refl, refl, refl)

lag-read : {ts us : List Token} {l : Lag} (parts : TableParts) → is_some parts.lag ≡ false → IsLag ts l us
    → table_option parts (Word (codes "TARGET_LAG") ∷ SignToken token.Equal ∷ ts) ≡ Some (Some (with_lag parts l), us)
unfolding table_option table_lag
lag-read {ts} {us} {l} parts free n =
    let none = none-from parts.lag free in
    rw ((sees-lag (SignToken token.Equal ∷ ts)).0, none, equal_reads ts, lag_read n) refl

warehouse-read : {ts us : List Token} {name : List ℕ} (parts : TableParts) → parts.warehouse ≡ false → IsName ts name us
    → table_option parts (Word (codes "WAREHOUSE") ∷ SignToken token.Equal ∷ ts)
    ≡ Some (Some (with_warehouse parts), us)
unfolding table_option table_warehouse
warehouse-read {ts} {us} {name} parts free n =
    let seen = sees-warehouse (SignToken token.Equal ∷ ts) in
    rw (seen.0, seen.1, free, equal_reads ts, name_reads n) refl

-- the word that a token is
record WordOf {A : Type 0} (of : List ℕ → Option A) (t : Token) (x : A) : Type 0 where
  word : List ℕ
  is : t ≡ Word word
  says : of word ≡ Some x

mode-word : {t : Token} {m : RefreshMode} → IsMode t m → WordOf mode_of t m
mode-word g.auto = record { word = codes "AUTO"; is = refl; says = refl }
mode-word g.full = record { word = codes "FULL"; is = refl; says = refl }
mode-word g.incremental = record { word = codes "INCREMENTAL"; is = refl; says = refl }

initialize-word : {t : Token} {i : Initialize} → IsInitialize t i → WordOf initialize_of t i
initialize-word g.on_create = record { word = codes "ON_CREATE"; is = refl; says = refl }
initialize-word g.on_schedule = record { word = codes "ON_SCHEDULE"; is = refl; says = refl }

word-given : (w : List ℕ) (us : List Token) → read_word (Word w ∷ us) ≡ Some (w, us)
unfolding read_word
word-given w us = refl

mode-by : {us : List Token} {m : RefreshMode} (parts : TableParts) (w : List ℕ) → parts.mode ≡ None → mode_of w ≡ Some m
    → table_option parts (Word (codes "REFRESH_MODE") ∷ SignToken token.Equal ∷ Word w ∷ us)
    ≡ Some (Some (with_mode parts m), us)
unfolding table_option table_mode
mode-by {us} {m} parts w none says =
    let seen = sees-mode (SignToken token.Equal ∷ Word w ∷ us) in
    rw (seen.0, seen.1, seen.2, none, equal_reads (Word w ∷ us), word-given w us, says) refl

mode-read : {t : Token} {us : List Token} {m : RefreshMode} (parts : TableParts) → is_some parts.mode ≡ false
    → IsMode t m
    → table_option parts (Word (codes "REFRESH_MODE") ∷ SignToken token.Equal ∷ t ∷ us)
    ≡ Some (Some (with_mode parts m), us)
mode-read {t} {us} {m} parts free h =
    let w = mode-word h in
    ap (λ (t : Token). table_option parts (Word (codes "REFRESH_MODE") ∷ SignToken token.Equal ∷ t ∷ us)) w.is
    ∙ mode-by parts w.word (none-from parts.mode free) w.says

initialize-by : {us : List Token} {i : Initialize} (parts : TableParts) (w : List ℕ) → parts.initialize ≡ None
    → initialize_of w ≡ Some i
    → table_option parts (Word (codes "INITIALIZE") ∷ SignToken token.Equal ∷ Word w ∷ us)
    ≡ Some (Some (with_initialize parts i), us)
unfolding table_option table_initialize
initialize-by {us} {i} parts w none says =
    let seen = sees-initialize (SignToken token.Equal ∷ Word w ∷ us) in
    rw (seen.0, seen.1, seen.2, seen.3, none, equal_reads (Word w ∷ us), word-given w us, says) refl

initialize-read : {t : Token} {us : List Token} {i : Initialize} (parts : TableParts) → is_some parts.initialize ≡ false
    → IsInitialize t i
    → table_option parts (Word (codes "INITIALIZE") ∷ SignToken token.Equal ∷ t ∷ us)
    ≡ Some (Some (with_initialize parts i), us)
initialize-read {t} {us} {i} parts free h =
    let w = initialize-word h in
    ap (λ (t : Token). table_option parts (Word (codes "INITIALIZE") ∷ SignToken token.Equal ∷ t ∷ us)) w.is
    ∙ initialize-by parts w.word (none-from parts.initialize free) w.says

run : {ts us : List Token} {options : List TableOption} → AreTableOptions ts options us → ends_table_options us ≡ true
    → (parts q : TableParts) → puts put parts options ≡ Some q → (fuel : ℕ) → length options < fuel
    → options_from table_option fuel parts ts ≡ Some (q, us)
run (g.no_more_table {ts}) end parts q e zero few = absurd (omega (arith, few))
run (g.no_more_table {ts}) end parts q e (suc fuel) few =
    options_end table_option fuel parts ts (ended parts ts end)
    ∙ ap (λ (r : TableParts). Some (r, ts)) (same_Some _ _ e)
run (g.target_lag {more = more} n h) end parts q e zero few = absurd (omega (arith, few))
run (g.target_lag {ts} {us} {vs} {l} {more} n h) end parts q e (suc fuel) few =
    if_free (is_some parts.lag) (with_lag parts l) (λ next. puts put next more) q e (λ free rest.
    options_more table_option fuel parts (with_lag parts l) _ us (lag-read parts free n)
    ∙ run h end (with_lag parts l) q rest fuel (omega (arith, few)))
run (g.table_warehouse {more = more} n h) end parts q e zero few = absurd (omega (arith, few))
run (g.table_warehouse {ts} {us} {vs} {more = more} n h) end parts q e (suc fuel) few =
    if_free parts.warehouse (with_warehouse parts) (λ next. puts put next more) q e (λ free rest.
    options_more table_option fuel parts (with_warehouse parts) _ us (warehouse-read parts free n)
    ∙ run h end (with_warehouse parts) q rest fuel (omega (arith, few)))
run (g.refresh_mode {more = more} n h) end parts q e zero few = absurd (omega (arith, few))
run (g.refresh_mode {t} {us} {vs} {m} {more} n h) end parts q e (suc fuel) few =
    if_free (is_some parts.mode) (with_mode parts m) (λ next. puts put next more) q e (λ free rest.
    options_more table_option fuel parts (with_mode parts m) _ us (mode-read parts free n)
    ∙ run h end (with_mode parts m) q rest fuel (omega (arith, few)))
run (g.initialize {more = more} n h) end parts q e zero few = absurd (omega (arith, few))
run (g.initialize {t} {us} {vs} {i} {more} n h) end parts q e (suc fuel) few =
    if_free (is_some parts.initialize) (with_initialize parts i) (λ next. puts put next more) q e (λ free rest.
    options_more table_option fuel parts (with_initialize parts i) _ us (initialize-read parts free n)
    ∙ run h end (with_initialize parts i) q rest fuel (omega (arith, few)))

-- ---- options that are there once at most can be put

record Fits (parts : TableParts) (options : List TableOption) : Type 0 where
  lags : length (listed parts.lag ++ lags_in options) ≤ 1
  modes : length (listed parts.mode ++ modes_in options) ≤ 1
  inits : length (listed parts.initialize ++ initialized_in options) ≤ 1
  warehouses : counted parts.warehouse + warehouses_in options ≤ 1

put_new : {A B : Type 0} (o : Option A) (x : A) (more : List A) → length (listed o ++ (x ∷ more)) ≤ 1
    → (is_some o ≡ false → length (x ∷ more) ≤ 1 → B)
    → B
put_new None x more few k = k refl few
put_new (Some y) x more few k = absurd (omega (arith, few))

count_new : {B : Type 0} (b : Bool) (n : ℕ) → counted b + suc n ≤ 1 → (b ≡ false → 1 + n ≤ 1 → B) → B
count_new true n few k = absurd (omega (arith, few))
count_new false n few k = k refl (omega (arith, few))

abbrev Put : TableParts → List TableOption → Type 0
Put parts options = (q : TableParts) × (puts put parts options ≡ Some q)

put_one : (next : TableParts) (options : List TableOption) (b : Bool) → b ≡ false → Put next options
    → (q : TableParts) × (then_put (if b then None else Some next) (λ r. puts put r options) ≡ Some q)
put_one next options true e p = absurd (cc)
put_one next options false e p = p

put_all : (options : List TableOption) (parts : TableParts) → Fits parts options → Put parts options
put_all [] parts f = (parts, refl)
put_all (g.TargetLag l ∷ more) parts f = put_new parts.lag l (lags_in more) f.lags (λ free few.
    put_one (with_lag parts l) more (is_some parts.lag) free (put_all more (with_lag parts l)
    (record { lags = few; modes = f.modes; inits = f.inits; warehouses = f.warehouses })))
put_all (g.TableWarehouse ∷ more) parts f = count_new parts.warehouse (warehouses_in more) f.warehouses (λ free few.
    put_one (with_warehouse parts) more parts.warehouse free (put_all more (with_warehouse parts)
    (record { lags = f.lags; modes = f.modes; inits = f.inits; warehouses = few })))
put_all (g.Mode m ∷ more) parts f = put_new parts.mode m (modes_in more) f.modes (λ free few.
    put_one (with_mode parts m) more (is_some parts.mode) free (put_all more (with_mode parts m)
    (record { lags = f.lags; modes = few; inits = f.inits; warehouses = f.warehouses })))
put_all (g.Initialized i ∷ more) parts f = put_new parts.initialize i (initialized_in more) f.inits (λ free few.
    put_one (with_initialize parts i) more (is_some parts.initialize) free (put_all more (with_initialize parts i)
    (record { lags = f.lags; modes = f.modes; inits = few; warehouses = f.warehouses })))

count-all : (options : List TableOption)
    → length options
    ≡ length (lags_in options) + length (modes_in options) + length (initialized_in options) + warehouses_in options
count-all [] = refl
count-all (g.TargetLag l ∷ more) = let rest = count-all more in omega (arith, rest)
count-all (g.TableWarehouse ∷ more) = let rest = count-all more in omega (arith, rest)
count-all (g.Mode m ∷ more) = let rest = count-all more in omega (arith, rest)
count-all (g.Initialized i ∷ more) = let rest = count-all more in omega (arith, rest)

abbrev head_or : {A : Type 0} → A → List A → A
head_or d [] = d
head_or d (z ∷ zs) = z

few-chosen : {A : Type 0} {default x : A} {xs : List A} → IsChosen default xs x → length xs ≤ 1
few-chosen g.by_default = omega arith
few-chosen g.as_written = omega arith

chosen-is : {A : Type 0} {default x : A} {xs : List A} → IsChosen default xs x → (o : Option A) → xs ≡ listed o
    → unwrap_or o default ≡ x
chosen-is g.by_default None e = refl
chosen-is g.by_default (Some y) e = absurd (cc)
chosen-is g.as_written None e = absurd (cc)
chosen-is (g.as_written {x = x}) (Some y) e = sym (ap (head_or x) e)

lag-is : (l : Lag) (o : Option Lag) → l ∷ [] ≡ listed o → o ≡ Some l
lag-is l None e = absurd (cc)
lag-is l (Some x) e = ap (λ (y : Lag). Some y) (sym (ap (head_or l) e))

table_given : (ts : List Token) (l : Lag) (m : RefreshMode) (i : Initialize) (us : List Token)
    → AreTableOptionsAt ts l m i us
    → read_table_options ts ≡ Some ((l, (m, i)), us)
unfolding read_table_options
table_given ts l m i us h =
    let give = h.give in
    let one : length (lags_in h.options) ≡ 1 = ap length give.lag in
    let modes = few-chosen give.mode in
    let inits = few-chosen give.initialize in
    let warehouses = give.warehouse in
    let all = count-all h.options in
    let p = put_all h.options no_table_parts
    (record { lags = omega (arith, one); modes = modes; inits = inits; warehouses = omega (arith, warehouses) }) in
    let read = run h.are h.ends no_table_parts p.0 p.1 5 (omega (arith, all, one, modes, inits, warehouses)) in
    let gathered = gathers h.options no_table_parts p.0 p.1 in
    let lag : p.0.lag ≡ Some l = lag-is l p.0.lag (sym give.lag ∙ gathered.lags) in
    let mode : unwrap_or p.0.mode mode.Auto ≡ m = chosen-is give.mode p.0.mode gathered.modes in
    let initialize : unwrap_or p.0.initialize init.OnCreate ≡ i =
    chosen-is give.initialize p.0.initialize gathered.inits in
    rw (read, lag, mode, initialize) refl

pub table_options_read : laws.ReadsTableOptions
table_options_read ts l m i us = (λ e. yielded (table_yields ts) (l, (m, i)) us e, table_given ts l m i us)

-- ---- for what a call returned

pub found : (ts : List Token) (r : Result TableOptions ParseFault) (us : List Token)
    → Reads (read_table_options ts) (seen r) us
    → IfOk r (λ options. AreTableOptionsAt ts options.lag options.mode options.initialize us)
found ts (Ok options) us h = (table_options_read ts options.lag options.mode options.initialize us).0 h
found ts (Err fault) us h = tt

pub none : (ts : List Token) (r : Result TableOptions ParseFault) (us : List Token)
    → Reads (read_table_options ts) (seen r) us → IsErrOf r faults.SyntaxError
    → (l : Lag) (m : RefreshMode) (i : Initialize) (vs : List Token) → AreTableOptionsAt ts l m i vs
    → ⊥
none ts (Ok options) us h failed l m i vs p = absurd (cc)
none ts (Err faults.SyntaxError) us h failed l m i vs p = let k = sym h ∙ table_given ts l m i vs p in cc
none ts (Err faults.OutOfMemory) us h failed l m i vs p = cc
