-- The head of CREATE TASK and of CREATE DYNAMIC TABLE is as good before any other tokens that don't begin with a `(`.
use Rattle.std.proofs.Common.{◌≡◌, ℕ, Bool, true, false, ◌&&◌, List, [], ◌∷◌, ◌++◌, Option, refl, sym, ap}
use Rattle.std.proofs.Common.{◌∙◌, subst, append_assoc}
use Rattle.std.specs.Prelude.{codes}
use Rattle.wh_ast.specs.declared.statement.Lag.{Lag}
use Rattle.wh_ast.specs.declared.statement.RefreshMode.{RefreshMode}
use Rattle.wh_ast.specs.declared.statement.Initialize.{Initialize}
use Rattle.wh_grammar.specs.Token.{Token, Word, Quoted}
use Rattle.wh_grammar.specs.Name.{IsName, opens, word, quoted}
use Rattle.wh_grammar.specs.Parts as parts
use Rattle.wh_grammar.specs.Parts.{TaskOption, AreTaskOptions, TableOption, AreTableOptions}
use Rattle.wh_grammar.specs.Spelled.{MayFollow, follows_none, follows, IsTaskHead, task_head, IsTableHead, table_head}
use Rattle.wh_dml_parse.specs.Laws as dml_laws
use Rattle.wh_option_parse.specs.Laws as option_laws
use Rattle.wh_stmt_parse.proofs.Carrying.{cons}

pub record Fronts (P : List Token → List Token → Type 0) (ts us : List Token) : Type 0 where
  pub front : List Token
  pub is : ts ≡ front ++ us
  pub stands : (vs : List Token) → opens vs ≡ false → P (front ++ vs) vs

closed : (call : Bool) {opened : Bool} → opened ≡ false → (call && opened) ≡ false
closed true h = h
closed false h = refl

name-frame : {ts us : List Token} {name : List ℕ} → IsName ts name us → Fronts (λ ts us. IsName ts name us) ts us
name-frame (word {w = w} r c) = record { front = Word w ∷ []; is = refl; stands = λ vs o. word r (closed _ o) }
name-frame (quoted {name = name}) = record { front = Quoted name ∷ []; is = refl; stands = λ vs o. quoted }

follow-frame : dml_laws.NamesFrame → {ts us : List Token} {names : List (List ℕ)} → MayFollow ts names us
    → Fronts (λ ts us. MayFollow ts names us) ts us
follow-frame frame follows_none = record { front = []; is = refl; stands = λ vs o. follows_none }
follow-frame frame (follows {ts = ts} {us = us} {names = names} h) =
    let f = frame ts names us h in
    record { front = Word (codes "AFTER") ∷ f.front; is = cons _ f.is; stands = λ vs o. follows (f.stands vs o) }

follow-opens : {ts us : List Token} {names : List (List ℕ)} → MayFollow ts names us → opens us ≡ false
    → opens ts ≡ false
follow-opens follows_none o = o
follow-opens (follows h) o = refl

task_options-opens : {ts us : List Token} {options : List TaskOption} → AreTaskOptions ts options us → opens us ≡ false
    → opens ts ≡ false
task_options-opens parts.no_more o = o
task_options-opens (parts.warehouse n more) o = refl
task_options-opens (parts.schedule s more) o = refl

table_options-opens : {ts us : List Token} {options : List TableOption} → AreTableOptions ts options us
    → opens us ≡ false → opens ts ≡ false
table_options-opens parts.no_more_table o = o
table_options-opens (parts.target_lag l more) o = refl
table_options-opens (parts.table_warehouse n more) o = refl
table_options-opens (parts.refresh_mode m more) o = refl
table_options-opens (parts.initialize i more) o = refl

grouped : (fs gs hs us : List Token) → (fs ++ (gs ++ hs)) ++ us ≡ fs ++ (gs ++ (hs ++ us))
grouped fs gs hs us = append_assoc fs (gs ++ hs) us ∙ ap (λ (l : List Token). fs ++ l) (append_assoc gs hs us)

pub task-frame : dml_laws.NamesFrame → option_laws.TaskOptionsFrame
    → {ts us : List Token} {name : List ℕ} {minutes : Option ℕ} {names : List (List ℕ)}
    → IsTaskHead ts name minutes names us
    → Fronts (λ ts us. IsTaskHead ts name minutes names us) ts us
task-frame names_frame options_frame {name = name} {minutes = minutes} {names = names}
    (task_head {us = us} {vs = vs} {ws = ws} {options = options} n o give f once) =
    let a = name-frame n in
    let b = options_frame us options vs o in
    let c = follow-frame names_frame f in
    record {
      front = Word (codes "CREATE") ∷ Word (codes "TASK") ∷ (a.front ++ (b.0 ++ c.front));
      is = cons _ (cons _ (a.is ∙ ap (λ (l : List Token). a.front ++ l) (b.1 ∙ ap (λ (l : List Token). b.0 ++ l) c.is)
          ∙ sym (grouped a.front b.0 c.front ws)));
      stands = λ rest closed.
          let after = c.stands rest closed in
          let closed_after : opens (c.front ++ rest) ≡ false = follow-opens after closed in
          let options_there = b.2 (c.front ++ rest) closed_after in
          let name_there = a.stands (b.0 ++ (c.front ++ rest)) (task_options-opens options_there closed_after) in
          subst (λ (l : List Token). IsTaskHead (Word (codes "CREATE") ∷ Word (codes "TASK") ∷ l) name minutes names
          rest) (sym (grouped a.front b.0 c.front rest))
          (task_head name_there options_there give after once);
    }

pub table-frame : option_laws.TableOptionsFrame
    → {ts us : List Token} {name : List ℕ} {l : Lag} {m : RefreshMode} {i : Initialize} → IsTableHead ts name l m i us
    → Fronts (λ ts us. IsTableHead ts name l m i us) ts us
table-frame options_frame
    {name = name} {l = l} {m = m} {i = i} (table_head {us = us} {vs = vs} {options = options} n o give) =
    let a = name-frame n in
    let b = options_frame us options vs o in
    record {
      front = Word (codes "CREATE") ∷ Word (codes "DYNAMIC") ∷ Word (codes "TABLE") ∷ (a.front ++ b.0);
      is = cons _
          (cons _ (cons _ (a.is ∙ ap (λ (l : List Token). a.front ++ l) b.1 ∙ sym (append_assoc a.front b.0 vs))));
      stands = λ rest closed.
          let options_there = b.2 rest closed in
          let name_there = a.stands (b.0 ++ rest) (table_options-opens options_there closed) in
          subst (λ (ts : List Token). IsTableHead (Word (codes "CREATE") ∷ Word (codes "DYNAMIC") ∷ Word (codes "TABLE")
          ∷ ts) name l m i rest) (sym (append_assoc a.front b.0 rest))
          (table_head name_there options_there give);
    }
