-- What stands behind the parts of a query, and what doesn't.
use Rattle.std.proofs.Common.{◌≡◌, ℕ, true, false, List, [], ◌∷◌, refl, sym, subst}
use Rattle.std.specs.Prelude.{codes}
use Rattle.std.proofs.lemmas.Slice.Eq.{bytes_eq-Decides}
use Rattle.wh_grammar.specs.Words.{is_reserved}
use Rattle.wh_grammar.specs.Token as token
use Rattle.wh_grammar.specs.Token.{Token, Word, Quoted, TextToken, NumberToken, SignToken}
use Rattle.wh_cursor.specs.Binds.{binds}
use Rattle.wh_cursor.specs.declared.key.TokenClass.TheVariants as k
use Rattle.wh_cursor.specs.Keys.{same_key, key_of}
use Rattle.wh_cursor.specs.Steps.{sees, sees_word}
use Rattle.wh_query_parse.specs.Follow.{ends_query, ends_alias, ends_filter}
use Rattle.wh_query_parse.specs.Read.{sees_join}

pub data QueryEnd : List Token → Type 0 where
  nothing_left : QueryEnd []
  closed : {us : List Token} → QueryEnd (SignToken token.RParen ∷ us)
  order : {us : List Token} → QueryEnd (Word (codes "ORDER") ∷ us)

pub data CoreEnd : List Token → Type 0 where
  query_end : {us : List Token} → QueryEnd us → CoreEnd us
  union : {us : List Token} → CoreEnd (Word (codes "UNION") ∷ us)

-- behind the condition, behind the joins, and behind a source
pub data FilterEnd : List Token → Type 0 where
  core_end : {us : List Token} → CoreEnd us → FilterEnd us
  group : {us : List Token} → FilterEnd (Word (codes "GROUP") ∷ us)

pub data JoinsEnd : List Token → Type 0 where
  filter_end : {us : List Token} → FilterEnd us → JoinsEnd us
  filter : {us : List Token} → JoinsEnd (Word (codes "WHERE") ∷ us)

pub data SourceEnd : List Token → Type 0 where
  joins_end : {us : List Token} → JoinsEnd us → SourceEnd us
  join : {us : List Token} → SourceEnd (Word (codes "JOIN") ∷ us)
  inner : {us : List Token} → SourceEnd (Word (codes "INNER") ∷ us)

pub data ItemEnd : List Token → Type 0 where
  comma : {us : List Token} → ItemEnd (SignToken token.Comma ∷ us)
  from : {us : List Token} → ItemEnd (Word (codes "FROM") ∷ us)

pub query-end : (us : List Token) → ends_query us ≡ true → QueryEnd us
query-end [] e = nothing_left
query-end (Word w ∷ us) e =
    subst (λ (v : List ℕ). QueryEnd (Word v ∷ us)) (sym ((bytes_eq-Decides w (codes "ORDER")).0 e)) order
query-end (Quoted name ∷ us) e = absurd (cc)
query-end (TextToken bytes ∷ us) e = absurd (cc)
query-end (NumberToken n ∷ us) e = absurd (cc)
query-end (SignToken token.RParen ∷ us) e = closed
query-end (SignToken _ ∷ us) e = absurd (cc)

-- ---- no UNION goes on with a query

pub no-union : {us : List Token} → QueryEnd us → sees_word (codes "UNION") us ≡ false
unfolding sees_word
no-union nothing_left = refl
no-union closed = refl
no-union order = refl

-- ---- what goes on with a core, its condition, its joins, an alias or an expression

record IsQuiet (us : List Token) : Type 0 where
  no_comma : sees k.Comma us ≡ false
  condition : ends_filter us ≡ true
  no_join : sees_join us ≡ false
  name : ends_alias us ≡ true
  unbound : binds us ≡ 0

query-quiet : {us : List Token} → QueryEnd us → IsQuiet us
unfolding sees same_key key_of is_reserved sees_word
query-quiet nothing_left = record { no_comma = refl; condition = refl; no_join = refl; name = refl; unbound = refl }
query-quiet closed = record { no_comma = refl; condition = refl; no_join = refl; name = refl; unbound = refl }
query-quiet order = record { no_comma = refl; condition = refl; no_join = refl; name = refl; unbound = refl }

core-quiet : {us : List Token} → CoreEnd us → IsQuiet us
unfolding sees same_key key_of is_reserved sees_word
core-quiet (query_end h) = query-quiet h
core-quiet union = record { no_comma = refl; condition = refl; no_join = refl; name = refl; unbound = refl }

filter-quiet : {us : List Token} → FilterEnd us → IsQuiet us
unfolding sees same_key key_of is_reserved sees_word
filter-quiet (core_end h) = core-quiet h
filter-quiet group = record { no_comma = refl; condition = refl; no_join = refl; name = refl; unbound = refl }

pub no-comma : {us : List Token} → CoreEnd us → sees k.Comma us ≡ false
no-comma h = (core-quiet h).no_comma

query-group : {us : List Token} → QueryEnd us → sees_word (codes "GROUP") us ≡ false
unfolding sees_word
query-group nothing_left = refl
query-group closed = refl
query-group order = refl

pub no-group : {us : List Token} → CoreEnd us → sees_word (codes "GROUP") us ≡ false
unfolding sees_word
no-group (query_end h) = query-group h
no-group union = refl

pub core-binds : {us : List Token} → CoreEnd us → binds us ≡ 0
core-binds h = (core-quiet h).unbound

pub filter-ends : {us : List Token} → FilterEnd us → ends_filter us ≡ true
filter-ends h = (filter-quiet h).condition

pub no-join : {us : List Token} → JoinsEnd us → sees_join us ≡ false
unfolding sees_word
no-join (filter_end h) = (filter-quiet h).no_join
no-join filter = refl

joins-alias : {us : List Token} → JoinsEnd us → ends_alias us ≡ true
unfolding is_reserved
joins-alias (filter_end h) = (filter-quiet h).name
joins-alias filter = refl

pub source-ends : {us : List Token} → SourceEnd us → ends_alias us ≡ true
unfolding is_reserved
source-ends (joins_end h) = joins-alias h
source-ends join = refl
source-ends inner = refl

joins-binds : {us : List Token} → JoinsEnd us → binds us ≡ 0
joins-binds (filter_end h) = (filter-quiet h).unbound
joins-binds filter = refl

pub source-binds : {us : List Token} → SourceEnd us → binds us ≡ 0
source-binds (joins_end h) = joins-binds h
source-binds join = refl
source-binds inner = refl

pub on-ends : (us : List Token) → ends_alias (Word (codes "ON") ∷ us) ≡ true
unfolding is_reserved
on-ends us = refl

-- ---- nothing goes on with an item

pub item-ends : {us : List Token} → ItemEnd us → ends_alias us ≡ true
unfolding is_reserved
item-ends comma = refl
item-ends from = refl

pub item-binds : {us : List Token} → ItemEnd us → binds us ≡ 0
item-binds comma = refl
item-binds from = refl

pub from-comma : (us : List Token) → sees k.Comma (Word (codes "FROM") ∷ us) ≡ false
unfolding sees same_key key_of is_reserved
from-comma us = refl
