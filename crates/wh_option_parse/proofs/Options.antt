-- Options in any order, each put to those so far: what is read stands there.
use Rattle.std.proofs.Common.{◌≡◌, ℕ, zero, suc, Bool, true, false, List, [], ◌∷◌, Option, Some, None, refl, sym, subst}
use Rattle.wh_grammar.specs.Token.{Token}
use Rattle.wh_cursor.specs.Steps.{Reader, and_then}
use Rattle.wh_option_parse.specs.Read.{goes_on, options_from, once}
use Rattle.wh_cursor.proofs.Yields.{Yields, yields, nothing, follow, mapped}

abbrev pub then_put : {P : Type 0} → Option P → (P → Option P) → Option P
then_put None f = None
then_put (Some next) f = f next

-- all of them, one after the other
abbrev pub puts : {P O : Type 0} → (P → O → Option P) → P → List O → Option P
puts put parts [] = Some parts
puts put parts (o ∷ more) = then_put (put parts o) (λ next. puts put next more)

-- one option stands before the rest
pub record More {P O : Type 0} (put : P → O → Option P) (Are : List Token → List O → List Token → Type 0)
    (parts : P) (ts : List Token) (next : P) (us : List Token) : Type 0 where
  pub one : O
  pub adds : put parts one ≡ Some next
  pub before : (more : List O) (vs : List Token) → Are us more vs → Are ts (one ∷ more) vs

-- one does, or none
abbrev pub Stepped : {P O : Type 0} → (P → O → Option P) → (List Token → List O → List Token → Type 0)
    → (List Token → Bool) → P → List Token → Option P → List Token
    → Type 0
Stepped put Are ends parts ts None us = (us ≡ ts) × (ends ts ≡ true)
Stepped put Are ends parts ts (Some next) us = More put Are parts ts next us

pub record All {P O : Type 0} (put : P → O → Option P) (Are : List Token → List O → List Token → Type 0)
    (ends : List Token → Bool) (parts : P) (ts : List Token) (q : P) (us : List Token) : Type 0 where
  pub options : List O
  pub are : Are ts options us
  pub puts_all : puts put parts options ≡ Some q
  pub end : ends us ≡ true

pub options_yield : {P O : Type 0} (put : P → O → Option P) (Are : List Token → List O → List Token → Type 0)
    (ends : List Token → Bool) (option : P → Reader (Option P))
    → ((ts : List Token) → Are ts [] ts)
    → ((parts : P) (ts : List Token) → Yields (option parts ts) (Stepped put Are ends parts ts))
    → (fuel : ℕ) (parts : P) (ts : List Token)
    → Yields (options_from option fuel parts ts) (All put Are ends parts ts)
unfolding options_from
options_yield put Are ends option none steps zero parts ts = nothing
options_yield {P} put Are ends option none steps (suc fuel) parts ts =
    follow (steps parts ts) (by (options_yield put Are ends option none steps fuel))
  where
    by : ((parts : P) (ts : List Token) → Yields (options_from option fuel parts ts) (All put Are ends parts ts))
        → (next : Option P) (us : List Token) → Stepped put Are ends parts ts next us
        → Yields (goes_on (options_from option fuel) parts next us) (All put Are ends parts ts)
    by more None us h = yields parts us (record {
      options = [];
      are = subst (λ (vs : List Token). Are ts [] vs) (sym h.0) (none ts);
      puts_all = refl;
      end = subst (λ (vs : List Token). ends vs ≡ true) (sym h.0) h.1;
    })
    by more (Some next) us h = mapped (more next us) (λ q vs i. record {
      options = h.one ∷ i.options;
      are = h.before i.options vs i.are;
      puts_all = rw h.adds i.puts_all;
      end = i.end;
    })

pub options_end : {P : Type 0} (option : P → Reader (Option P)) (fuel : ℕ) (parts : P) (ts : List Token)
    → option parts ts ≡ Some (None, ts)
    → options_from option (suc fuel) parts ts ≡ Some (parts, ts)
unfolding options_from
options_end option fuel parts ts e = rw e refl

pub options_more : {P : Type 0} (option : P → Reader (Option P)) (fuel : ℕ) (parts next : P) (ts us : List Token)
    → option parts ts ≡ Some (Some next, us)
    → options_from option (suc fuel) parts ts ≡ options_from option fuel next us
unfolding options_from
options_more option fuel parts next ts us e = rw e refl

-- in front of the others, unless it was seen before
pub then_once : {B : Type 0} (b : Bool) (ts : List Token) (f : Unit {0} → Reader B) {Q : B → List Token → Type 0}
    → (b ≡ false → Yields (f tt ts) Q)
    → Yields (and_then (once b ts) f) Q
then_once true ts f k = nothing
then_once false ts f k = k refl
