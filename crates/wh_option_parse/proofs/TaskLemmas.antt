-- Options of tasks: what is read stands there, and what stands there is read.
use Rattle.std.proofs.Common.{◌≡◌, ℕ, zero, suc, ◌<◌, Bool, true, false, not, ◌||◌, if◌then◌else◌, List, [], ◌∷◌}
use Rattle.std.proofs.Common.{length, Option, Some, None, refl, sym, ap, ◌∙◌, subst, bytes_eq, arith}
use Rattle.std.specs.Prelude.{codes}
use Rattle.std.proofs.lemmas.Option.{same_Some}
use Rattle.wh_grammar.specs.Token as token
use Rattle.wh_grammar.specs.Token.{Token, Word, Quoted, TextToken, NumberToken, SignToken}
use Rattle.wh_grammar.specs.Name.{IsName}
use Rattle.wh_grammar.specs.OptionText.{IsSchedule}
use Rattle.wh_grammar.specs.Parts as g
use Rattle.wh_grammar.specs.Parts.{TaskOption, AreTaskOptions, TaskOptionsGive}
use Rattle.wh_cursor.specs.declared.key.TokenClass.TheVariants as k
use Rattle.wh_cursor.specs.Steps.{tail, sees_word}
use Rattle.wh_option_parse.specs.declared.task.TaskParts.{TaskParts}
use Rattle.wh_option_parse.specs.Follow.{ends_task_options, AreTaskOptionsAt}
use Rattle.wh_option_parse.specs.Laws as laws
use Rattle.wh_option_parse.specs.Read.{is_some, task_warehouse, task_schedule, task_option_by, task_option}
use Rattle.wh_option_parse.specs.Read.{no_task_parts, options_from, read_task_options}
use Rattle.wh_cursor.proofs.Yields.{Yields, yields, follow, yielded}
use Rattle.wh_cursor.proofs.Combine.{sees_word_some, sees_word_is, name-yields}
use Rattle.wh_cursor.proofs.Combine.{then_expect_key, equal_reads, name_reads}
use Rattle.wh_option_parse.proofs.Options.{then_once}
use Rattle.wh_option_parse.proofs.LagLemmas.{schedule_yields, schedule_read}
use Rattle.wh_option_parse.proofs.Options.{then_put, puts, More, Stepped, options_yield, options_end, options_more}

abbrev parts_of : Bool → Option ℕ → TaskParts
parts_of warehouse minutes = record { warehouse = warehouse; minutes = minutes }

abbrev put : TaskParts → TaskOption → Option TaskParts
put parts g.Warehouse = if parts.warehouse then None else Some (parts_of true parts.minutes)
put parts (g.Schedule n) = if is_some parts.minutes then None else Some (parts_of parts.warehouse (Some n))

-- ---- what is read stands there

unseen-ends : (ts : List Token) → sees_word (codes "WAREHOUSE") ts ≡ false → sees_word (codes "SCHEDULE") ts ≡ false
    → ends_task_options ts ≡ true
unfolding sees_word
unseen-ends [] a b = refl
unseen-ends (Word w ∷ us) a b = rw (a, b) refl
unseen-ends (Quoted name ∷ us) a b = refl
unseen-ends (TextToken bytes ∷ us) a b = refl
unseen-ends (NumberToken n ∷ us) a b = refl
unseen-ends (SignToken s ∷ us) a b = refl

front : (w : List ℕ) (ts : List Token) → ts ≡ Word w ∷ tail ts → tail ts ≡ SignToken token.Equal ∷ tail (tail ts)
    → ts ≡ Word w ∷ SignToken token.Equal ∷ tail (tail ts)
front w ts one two = one ∙ ap (λ (us : List Token). Word w ∷ us) two

warehouse-sound : (parts : TaskParts) (ts : List Token) → ts ≡ Word (codes "WAREHOUSE") ∷ tail ts
    → Yields (task_warehouse parts (tail ts)) (More put AreTaskOptions parts ts)
unfolding task_warehouse
warehouse-sound parts ts is = then_once parts.warehouse (tail ts) _
    (λ free. then_expect_key k.Equal (tail ts) _ (λ equal. follow (name-yields (tail (tail ts))) (λ name us n.
    yields (parts_of true parts.minutes) us (record {
      one = g.Warehouse;
      adds = rw free refl;
      before = λ more vs are. subst (λ (l : List Token). AreTaskOptions l (g.Warehouse ∷ more) vs)
          (sym (front (codes "WAREHOUSE") ts is equal)) (g.warehouse n are);
    }))))

schedule-sound : (parts : TaskParts) (ts : List Token) → ts ≡ Word (codes "SCHEDULE") ∷ tail ts
    → Yields (task_schedule parts (tail ts)) (More put AreTaskOptions parts ts)
unfolding task_schedule
schedule-sound parts ts is = then_once (is_some parts.minutes) (tail ts) _
    (λ free. then_expect_key k.Equal (tail ts) _ (λ equal. follow (schedule_yields (tail (tail ts))) (λ minutes us s.
    yields (parts_of parts.warehouse (Some minutes)) us (record {
      one = g.Schedule minutes;
      adds = rw free refl;
      before = λ more vs are. subst (λ (l : List Token). AreTaskOptions l (g.Schedule minutes ∷ more) vs)
          (sym (front (codes "SCHEDULE") ts is equal
          ∙ ap (λ (us : List Token). Word (codes "SCHEDULE") ∷ SignToken token.Equal ∷ us) s.is))
          (g.schedule s.schedule are);
    }))))

option_yields : (parts : TaskParts) (ts : List Token)
    → Yields (task_option parts ts) (Stepped put AreTaskOptions ends_task_options parts ts)
unfolding task_option
option_yields parts ts = by (sees_word (codes "WAREHOUSE") ts) (sees_word (codes "SCHEDULE") ts) refl refl
  where
    by : (a b : Bool) → sees_word (codes "WAREHOUSE") ts ≡ a → sees_word (codes "SCHEDULE") ts ≡ b
        → Yields (task_option_by parts a b ts) (Stepped put AreTaskOptions ends_task_options parts ts)
    by true b e f = follow (warehouse-sound parts ts (sees_word_some (codes "WAREHOUSE") ts e))
        (λ next us h. yields (Some next) us h)
    by false true e f =
        follow (schedule-sound parts ts (sees_word_some (codes "SCHEDULE") ts f)) (λ next us h. yields (Some next) us h)
    by false false e f = yields None ts (refl, unseen-ends ts e f)

give : (options : List TaskOption) (q : TaskParts) → puts put no_task_parts options ≡ Some q
    → TaskOptionsGive options q.minutes
give [] q e = subst (λ (r : TaskParts). TaskOptionsGive [] r.minutes) (same_Some _ _ e) g.nothing
give (g.Warehouse ∷ []) q e =
    subst (λ (r : TaskParts). TaskOptionsGive (g.Warehouse ∷ []) r.minutes) (same_Some _ _ e) g.warehouse_alone
give (g.Schedule n ∷ []) q e =
    subst (λ (r : TaskParts). TaskOptionsGive (g.Schedule n ∷ []) r.minutes) (same_Some _ _ e) g.schedule_alone
give (g.Warehouse ∷ g.Schedule n ∷ []) q e = subst
    (λ (r : TaskParts). TaskOptionsGive (g.Warehouse ∷ g.Schedule n ∷ []) r.minutes) (same_Some _ _ e) g.schedule_last
give (g.Schedule n ∷ g.Warehouse ∷ []) q e = subst
    (λ (r : TaskParts). TaskOptionsGive (g.Schedule n ∷ g.Warehouse ∷ []) r.minutes) (same_Some _ _ e) g.schedule_first
give (g.Warehouse ∷ g.Warehouse ∷ more) q e = absurd (cc)
give (g.Schedule n ∷ g.Schedule m ∷ more) q e = absurd (cc)
give (g.Warehouse ∷ g.Schedule n ∷ g.Warehouse ∷ more) q e = absurd (cc)
give (g.Warehouse ∷ g.Schedule n ∷ g.Schedule m ∷ more) q e = absurd (cc)
give (g.Schedule n ∷ g.Warehouse ∷ g.Warehouse ∷ more) q e = absurd (cc)
give (g.Schedule n ∷ g.Warehouse ∷ g.Schedule m ∷ more) q e = absurd (cc)

task_yields : (ts : List Token) → Yields (read_task_options ts) (AreTaskOptionsAt ts)
unfolding read_task_options
task_yields ts = follow (options_yield put AreTaskOptions ends_task_options task_option
    (λ ts. g.no_more) option_yields 3 no_task_parts ts) (λ q us h.
    yields q.minutes us (record { options = h.options; are = h.are; give = give h.options q h.puts_all; ends = h.end }))

-- ---- what stands there is read

unseen-by : (a b : Bool) → not (a || b) ≡ true → (a ≡ false) × (b ≡ false)
unseen-by true b h = absurd (cc)
unseen-by false true h = absurd (cc)
unseen-by false false h = (refl, refl)

ends-unseen : (ts : List Token) → ends_task_options ts ≡ true
    → (sees_word (codes "WAREHOUSE") ts ≡ false) × (sees_word (codes "SCHEDULE") ts ≡ false)
unfolding sees_word
ends-unseen [] h = (refl, refl)
ends-unseen (Word w ∷ us) h = unseen-by (bytes_eq w (codes "WAREHOUSE")) (bytes_eq w (codes "SCHEDULE")) h
ends-unseen (Quoted name ∷ us) h = (refl, refl)
ends-unseen (TextToken bytes ∷ us) h = (refl, refl)
ends-unseen (NumberToken n ∷ us) h = (refl, refl)
ends-unseen (SignToken s ∷ us) h = (refl, refl)

ended : (parts : TaskParts) (ts : List Token) → ends_task_options ts ≡ true → task_option parts ts ≡ Some (None, ts)
unfolding task_option
ended parts ts h = let none = ends-unseen ts h in rw (none.0, none.1) refl

schedule-other : (us : List Token) → sees_word (codes "WAREHOUSE") (Word (codes "SCHEDULE") ∷ us) ≡ false
unfolding sees_word
schedule-other us = refl

warehouse-read : {ts us : List Token} {name : List ℕ} (parts : TaskParts) → parts.warehouse ≡ false → IsName ts name us
    → task_option parts (Word (codes "WAREHOUSE") ∷ SignToken token.Equal ∷ ts)
    ≡ Some (Some (parts_of true parts.minutes), us)
unfolding task_option task_warehouse
warehouse-read {ts} {us} {name} parts free n =
    rw (sees_word_is (codes "WAREHOUSE") (SignToken token.Equal ∷ ts), free, equal_reads ts, name_reads n) refl

schedule-read : {us : List Token} {bytes : List ℕ} {n : ℕ} (parts : TaskParts) → parts.minutes ≡ None
    → IsSchedule bytes n
    → task_option parts (Word (codes "SCHEDULE") ∷ SignToken token.Equal ∷ TextToken bytes ∷ us)
    ≡ Some (Some (parts_of parts.warehouse (Some n)), us)
unfolding task_option task_schedule
schedule-read {us} {bytes} {n} parts free s =
    let rest : List Token = TextToken bytes ∷ us in
    rw (
      schedule-other (SignToken token.Equal ∷ rest),
      sees_word_is (codes "SCHEDULE") (SignToken token.Equal ∷ rest),
      free,
      equal_reads rest,
      schedule_read us s,
    ) refl

if_free : {A : Type 0} (b : Bool) (next : TaskParts) (f : TaskParts → Option TaskParts) (q : TaskParts)
    → then_put (if b then None else Some next) f ≡ Some q → (b ≡ false → f next ≡ Some q → A)
    → A
if_free true next f q e k = absurd (cc)
if_free false next f q e k = k refl e

none-from : {A : Type 0} (o : Option A) → is_some o ≡ false → o ≡ None
none-from None e = refl
none-from (Some x) e = absurd (cc)

run : {ts us : List Token} {options : List TaskOption} → AreTaskOptions ts options us → ends_task_options us ≡ true
    → (parts q : TaskParts) → puts put parts options ≡ Some q → (fuel : ℕ) → length options < fuel
    → options_from task_option fuel parts ts ≡ Some (q, us)
run (g.no_more {ts}) end parts q e zero few = absurd (omega (arith, few))
run (g.no_more {ts}) end parts q e (suc fuel) few =
    options_end task_option fuel parts ts (ended parts ts end) ∙ ap (λ (r : TaskParts). Some (r, ts)) (same_Some _ _ e)
run (g.warehouse {more = more} n h) end parts q e zero few = absurd (omega (arith, few))
run (g.warehouse {ts} {us} {vs} {more = more} n h) end parts q e (suc fuel) few =
    if_free parts.warehouse (parts_of true parts.minutes) (λ next. puts put next more) q e (λ free rest.
    options_more task_option fuel parts (parts_of true parts.minutes) _ us (warehouse-read parts free n)
    ∙ run h end (parts_of true parts.minutes) q rest fuel (omega (arith, few)))
run (g.schedule {more = more} s h) end parts q e zero few = absurd (omega (arith, few))
run (g.schedule {us} {vs} {n = n} {more = more} s h) end parts q e (suc fuel) few =
    if_free (is_some parts.minutes) (parts_of parts.warehouse (Some n)) (λ next. puts put next more) q e (λ free rest.
    options_more task_option fuel parts (parts_of parts.warehouse (Some n)) _ us
    (schedule-read parts (none-from parts.minutes free) s)
    ∙ run h end (parts_of parts.warehouse (Some n)) q rest fuel (omega (arith, few)))

record Put (options : List TaskOption) (minutes : Option ℕ) : Type 0 where
  parts : TaskParts
  all : puts put no_task_parts options ≡ Some parts
  same : parts.minutes ≡ minutes
  few : length options < 3

put_all : {options : List TaskOption} {minutes : Option ℕ} → TaskOptionsGive options minutes → Put options minutes
put_all g.nothing = record { parts = parts_of false None; all = refl; same = refl; few = omega arith }
put_all g.warehouse_alone = record { parts = parts_of true None; all = refl; same = refl; few = omega arith }
put_all (g.schedule_alone {n}) = record { parts = parts_of false (Some n); all = refl; same = refl; few = omega arith }
put_all (g.schedule_first {n}) = record { parts = parts_of true (Some n); all = refl; same = refl; few = omega arith }
put_all (g.schedule_last {n}) = record { parts = parts_of true (Some n); all = refl; same = refl; few = omega arith }

task_given : (ts : List Token) (minutes : Option ℕ) (us : List Token) → AreTaskOptionsAt ts minutes us
    → read_task_options ts ≡ Some (minutes, us)
unfolding read_task_options
task_given ts minutes us h =
    let p = put_all h.give in
    let read = run h.are h.ends no_task_parts p.parts p.all 3 p.few in
    rw read (ap (λ (m : Option ℕ). Some (m, us)) p.same)

pub task_options_read : laws.ReadsTaskOptions
task_options_read ts minutes us = (λ e. yielded (task_yields ts) minutes us e, task_given ts minutes us)
