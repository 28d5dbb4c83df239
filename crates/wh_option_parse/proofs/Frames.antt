-- Conditions and options are fronts of the tokens, and the same before others.
use Rattle.std.proofs.Common.{◌≡◌, ℕ, suc, ◌≤◌, Bool, true, false, ◌&&◌, List, [], ◌∷◌, ◌++◌, length, refl, sym, ap}
use Rattle.std.proofs.Common.{◌∙◌, subst, append_assoc, append-nil, length-append, arith}
use Rattle.std.specs.Prelude.{codes}
use Rattle.wh_ast.specs.declared.statement.WhenCondition.{WhenCondition}
use Rattle.wh_ast.specs.declared.statement.Lag.{Lag}
use Rattle.wh_grammar.specs.Words.{is_call}
use Rattle.wh_grammar.specs.Token as token
use Rattle.wh_grammar.specs.Token.{Token, Word, Quoted, TextToken, NumberToken, SignToken}
use Rattle.wh_grammar.specs.Name.{IsName, opens, word, quoted}
use Rattle.wh_grammar.specs.Parts.{IsLag, downstream, lag_text, AsksForData, asks, IsCondition, one_cand, or_condition}
use Rattle.wh_grammar.specs.Parts.{IsAndCondition, one_cnot, and_condition, IsNotCondition, not_condition}
use Rattle.wh_grammar.specs.Parts.{inner_condition, has_data, TaskOption, AreTaskOptions, no_more, warehouse, schedule}
use Rattle.wh_grammar.specs.Parts.{TableOption, TargetLag, AreTableOptions, no_more_table, target_lag, table_warehouse}
use Rattle.wh_grammar.specs.Parts.{refresh_mode, initialize}
use Rattle.wh_option_parse.specs.Laws as laws

-- a front of ts, before which others may stand in place of us
pub record Framed (P : List Token → List Token → Type 0) (ts us : List Token) : Type 0 where
  pub front : List Token
  pub is : ts ≡ front ++ us
  pub on : (vs : List Token) → P (front ++ vs) vs

first : {P R : List Token → List Token → Type 0} {ts us : List Token} (t : Token) → Framed P ts us
    → ((xs ys : List Token) → P xs ys → R (t ∷ xs) ys)
    → Framed R (t ∷ ts) us
first t h step = record {
  front = t ∷ h.front;
  is = ap (λ (l : List Token). t ∷ l) h.is;
  on = λ vs. step (h.front ++ vs) vs (h.on vs);
}

-- and a token behind it, which is no part of what is left
last : {P R : List Token → List Token → Type 0} {ts us : List Token} (t : Token) → Framed P ts (t ∷ us)
    → ((xs ys : List Token) → P xs (t ∷ ys) → R xs ys)
    → Framed R ts us
last {R = R} {us = us} t h step = record {
  front = h.front ++ t ∷ [];
  is = h.is ∙ sym (append_assoc h.front (t ∷ []) us);
  on = λ vs. subst (λ (l : List Token). R l vs) (sym (append_assoc h.front (t ∷ []) vs))
      (step (h.front ++ t ∷ vs) vs (h.on (t ∷ vs)));
}

joined : {P Q R : List Token → List Token → Type 0} {ts us vs : List Token} (t : Token) → Framed P ts (t ∷ us)
    → Framed Q us vs → ((xs ys zs : List Token) → P xs (t ∷ ys) → Q ys zs → R xs zs)
    → Framed R ts vs
joined {R = R} {vs = vs} t h l step = record {
  front = h.front ++ t ∷ l.front;
  is = h.is ∙ ap (λ (us : List Token). h.front ++ t ∷ us) l.is ∙ sym (append_assoc h.front (t ∷ l.front) vs);
  on = λ ws. subst (λ (xs : List Token). R xs ws) (sym (append_assoc h.front (t ∷ l.front) ws))
      (step (h.front ++ t ∷ (l.front ++ ws)) (l.front ++ ws) ws (h.on (t ∷ (l.front ++ ws))) (l.on ws));
}

-- ---- conditions

pub asked-frame : {ts us : List Token} {name : List ℕ} → AsksForData ts name us
    → Framed (λ xs ys. AsksForData xs name ys) ts us
asked-frame (asks {us} {bytes} {name} h) = record {
  front =
      Word (codes "SYSTEM$STREAM_HAS_DATA") ∷ SignToken token.LParen ∷ TextToken bytes ∷ SignToken token.RParen ∷ [];
  is = refl;
  on = λ vs. asks h;
}

-- `(` and a condition
data IsInner : ℕ → List Token → WhenCondition → List Token → Type 0 where
  inner : {d : ℕ} {ts us : List Token} {x : WhenCondition} → IsCondition d ts x us
      → IsInner d (SignToken token.LParen ∷ ts) x us

close : {d : ℕ} {ts us : List Token} {x : WhenCondition} → IsInner d ts x (SignToken token.RParen ∷ us)
    → IsNotCondition (suc d) ts x us
close k = by k refl
  where
    by : {d : ℕ} {ts us vs : List Token} {x : WhenCondition} → IsInner d ts x vs → vs ≡ SignToken token.RParen ∷ us
        → IsNotCondition (suc d) ts x us
    by (inner {d} {ts} {us} {x} h) e = inner_condition (subst (λ (vs : List Token). IsCondition d ts x vs) e h)

mutual
  pub cor-frame : {d : ℕ} {ts us : List Token} {x : WhenCondition} → IsCondition d ts x us
      → Framed (λ xs ys. IsCondition d xs x ys) ts us
  cor-frame (one_cand h) = let f = cand-frame h in record { front = f.front; is = f.is; on = λ vs. one_cand (f.on vs) }
  cor-frame (or_condition h l) = joined (Word (codes "OR")) (cor-frame h) (cand-frame l) (λ xs ys zs. or_condition)

  pub cand-frame : {d : ℕ} {ts us : List Token} {x : WhenCondition} → IsAndCondition d ts x us
      → Framed (λ xs ys. IsAndCondition d xs x ys) ts us
  cand-frame (one_cnot h) = let f = cnot-frame h in record { front = f.front; is = f.is; on = λ vs. one_cnot (f.on vs) }
  cand-frame (and_condition h l) = joined (Word (codes "AND")) (cand-frame h) (cnot-frame l) (λ xs ys zs. and_condition)

  pub cnot-frame : {d : ℕ} {ts us : List Token} {x : WhenCondition} → IsNotCondition d ts x us
      → Framed (λ xs ys. IsNotCondition d xs x ys) ts us
  cnot-frame (not_condition h) = first (Word (codes "NOT")) (cnot-frame h) (λ xs ys. not_condition)
  cnot-frame (inner_condition {d} {ts} {us} {x} h) =
      last (SignToken token.RParen) (first {R = λ xs ys. IsInner d xs x ys} (SignToken token.LParen) (cor-frame h)
      (λ xs ys k. inner k)) (λ xs ys k. close k)
  cnot-frame (has_data h) = let f = asked-frame h in
      record { front = f.front; is = f.is; on = λ vs. has_data (f.on vs) }

pub condition_frame : laws.ConditionFrame
condition_frame d ts x us h =
    let f = cor-frame h in
    (f.front, f.is, subst (λ (l : List Token). IsCondition d l x []) (append-nil f.front) (f.on []))

pub condition_back : laws.ConditionBack
condition_back d front x us h =
    let f = cor-frame h in
    subst (λ (l : List Token). IsCondition d (l ++ us) x us) (sym (f.is ∙ append-nil f.front)) (f.on us)

-- what stands before the rest isn't empty, so the rest is shorter
pub rest-short : {P : List Token → List Token → Type 0} {ts us : List Token} → Framed P ts us → length us ≤ length ts
rest-short {us = us} h = let same = ap length h.is in let long = length-append h.front us in omega (arith, same, long)

-- ---- options: no `(` may stand behind them

pub record Before (P : List Token → List Token → Type 0) (ts us : List Token) : Type 0 where
  pub front : List Token
  pub is : ts ≡ front ++ us
  pub on : (vs : List Token) → opens vs ≡ false → P (front ++ vs) vs

opens-head : (t : Token) (us vs : List Token) → opens (t ∷ us) ≡ opens (t ∷ vs)
opens-head (Word w) us vs = refl
opens-head (Quoted name) us vs = refl
opens-head (TextToken bytes) us vs = refl
opens-head (NumberToken n) us vs = refl
opens-head (SignToken token.LParen) us vs = refl
opens-head (SignToken token.RParen) us vs = refl
opens-head (SignToken token.Comma) us vs = refl
opens-head (SignToken token.Dot) us vs = refl
opens-head (SignToken token.Star) us vs = refl
opens-head (SignToken token.Plus) us vs = refl
opens-head (SignToken token.Minus) us vs = refl
opens-head (SignToken token.Equal) us vs = refl
opens-head (SignToken token.Unequal) us vs = refl
opens-head (SignToken token.Less) us vs = refl
opens-head (SignToken token.AtMost) us vs = refl
opens-head (SignToken token.Greater) us vs = refl
opens-head (SignToken token.AtLeast) us vs = refl
opens-head (SignToken token.Arrow) us vs = refl

and_no : (a b : Bool) → b ≡ false → (a && b) ≡ false
and_no true b e = e
and_no false b e = refl

no-call : (w : List ℕ) (front us vs : List Token) → (is_call w && opens (front ++ us)) ≡ false → opens vs ≡ false
    → (is_call w && opens (front ++ vs)) ≡ false
no-call w [] us vs h shut = and_no (is_call w) (opens vs) shut
no-call w (t ∷ front) us vs h shut = ap (λ (b : Bool). is_call w && b) (opens-head t (front ++ vs) (front ++ us)) ∙ h

option_at : {P R : List Token → List Token → Type 0} {ts us : List Token} (w : List ℕ) → Before P ts us
    → ((xs ys : List Token) → P xs ys → R (Word w ∷ SignToken token.Equal ∷ xs) ys)
    → Before R (Word w ∷ SignToken token.Equal ∷ ts) us
option_at w f step = record {
  front = Word w ∷ SignToken token.Equal ∷ f.front;
  is = ap (λ (l : List Token). Word w ∷ SignToken token.Equal ∷ l) f.is;
  on = λ vs shut. step (f.front ++ vs) vs (f.on vs shut);
}

-- a name, and options behind it
named : {R : List Token → List Token → Type 0} {ts us vs : List Token} {name : List ℕ}
    {Q : List Token → List Token → Type 0}
    → IsName ts name us → Before Q us vs → ((xs ys zs : List Token) → IsName xs name ys → Q ys zs → R xs zs)
    → Before R ts vs
named {vs = vs} (word {w} {us} free call) f step = record {
  front = Word w ∷ f.front;
  is = ap (λ (l : List Token). Word w ∷ l) f.is;
  on = λ ws shut. step (Word w ∷ (f.front ++ ws)) (f.front ++ ws) ws
      (word free (no-call w f.front vs ws (ap (λ (l : List Token). is_call w && opens l) (sym f.is) ∙ call) shut))
      (f.on ws shut);
}
named (quoted {name} {us}) f step = record {
  front = Quoted name ∷ f.front;
  is = ap (λ (l : List Token). Quoted name ∷ l) f.is;
  on = λ ws shut. step (Quoted name ∷ (f.front ++ ws)) (f.front ++ ws) ws quoted (f.on ws shut);
}

-- a word and `=` before it
option_named : {R : List Token → List Token → Type 0} {ts us vs : List Token} {name : List ℕ}
    {Q : List Token → List Token → Type 0} (w : List ℕ)
    → IsName ts name us → Before Q us vs
    → ((xs ys zs : List Token) → IsName xs name ys → Q ys zs → R (Word w ∷ SignToken token.Equal ∷ xs) zs)
    → Before R (Word w ∷ SignToken token.Equal ∷ ts) vs
option_named {R = R} w n f step =
    option_at w (named {R = λ xs zs. R (Word w ∷ SignToken token.Equal ∷ xs) zs} n f step) (λ xs ys r. r)

-- `=` and a word before a token that stands for the option
valued : {P R : List Token → List Token → Type 0} {ts us : List Token} (w : List ℕ) (t : Token) → Before P ts us
    → ((xs ys : List Token) → P xs ys → R (Word w ∷ SignToken token.Equal ∷ t ∷ xs) ys)
    → Before R (Word w ∷ SignToken token.Equal ∷ t ∷ ts) us
valued w t f step = record {
  front = Word w ∷ SignToken token.Equal ∷ t ∷ f.front;
  is = ap (λ (l : List Token). Word w ∷ SignToken token.Equal ∷ t ∷ l) f.is;
  on = λ vs shut. step (f.front ++ vs) vs (f.on vs shut);
}

-- a lag, and options behind it
lagged : {P Q R : List Token → List Token → Type 0} {ts us vs : List Token} → Framed P ts us → Before Q us vs
    → ((xs ys zs : List Token) → P xs ys → Q ys zs → R xs zs) → Before R ts vs
lagged {R = R} {vs = vs} h f step = record {
  front = h.front ++ f.front;
  is = h.is ∙ ap (λ (l : List Token). h.front ++ l) f.is ∙ sym (append_assoc h.front f.front vs);
  on = λ ws shut. subst (λ (xs : List Token). R xs ws) (sym (append_assoc h.front f.front ws))
      (step (h.front ++ (f.front ++ ws)) (f.front ++ ws) ws (h.on (f.front ++ ws)) (f.on ws shut));
}

lag-frame : {ts us : List Token} {l : Lag} → IsLag ts l us → Framed (λ xs ys. IsLag xs l ys) ts us
lag-frame (downstream {us}) = record { front = Word (codes "DOWNSTREAM") ∷ []; is = refl; on = λ vs. downstream }
lag-frame (lag_text {us} {bytes} {l} h) = record { front = TextToken bytes ∷ []; is = refl; on = λ vs. lag_text h }

task-frame : {ts us : List Token} {options : List TaskOption} → AreTaskOptions ts options us
    → Before (λ xs ys. AreTaskOptions xs options ys) ts us
task-frame (no_more {ts}) = record { front = []; is = refl; on = λ vs shut. no_more }
task-frame (warehouse n h) = option_named (codes "WAREHOUSE") n (task-frame h) (λ xs ys zs k q. warehouse k q)
task-frame (schedule {us} {vs} {bytes} s h) =
    valued (codes "SCHEDULE") (TextToken bytes) (task-frame h) (λ xs ys q. schedule s q)

pub task_options_frame : laws.TaskOptionsFrame
task_options_frame ts options us h = let f = task-frame h in (f.front, f.is, f.on)

table-frame : {ts us : List Token} {options : List TableOption} → AreTableOptions ts options us
    → Before (λ xs ys. AreTableOptions xs options ys) ts us
table-frame (no_more_table {ts}) = record { front = []; is = refl; on = λ vs shut. no_more_table }
table-frame (target_lag {ts} {us} {vs} {l} {more} n h) = option_at (codes "TARGET_LAG")
    (lagged {R = λ xs zs. AreTableOptions (Word (codes "TARGET_LAG") ∷ SignToken token.Equal ∷ xs)
    (TargetLag l ∷ more) zs} (lag-frame n) (table-frame h) (λ xs ys zs k q. target_lag k q)) (λ xs ys r. r)
table-frame (table_warehouse n h) =
    option_named (codes "WAREHOUSE") n (table-frame h) (λ xs ys zs k q. table_warehouse k q)
table-frame (refresh_mode {t} m h) = valued (codes "REFRESH_MODE") t (table-frame h) (λ xs ys q. refresh_mode m q)
table-frame (initialize {t} i h) = valued (codes "INITIALIZE") t (table-frame h) (λ xs ys q. initialize i q)

pub table_options_frame : laws.TableOptionsFrame
table_options_frame ts options us h = let f = table-frame h in (f.front, f.is, f.on)
