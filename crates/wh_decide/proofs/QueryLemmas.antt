-- SELECT: its outcome, from what it reads and from its rows.
--     is_unread          it is refused for what it reads
--     is_shown           it isn't, so its rows are shown
--     is_undefined       it isn't, but a number is out of range
use Rattle.std.proofs.Common.{◌≡◌, ℕ, List, [], ◌∷◌, Option, Some, None, option_map}
use Rattle.std.proofs.Common.{refl, ap, sym, ◌∙◌}
use Rattle.wh_value.specs.Value.{Row}
use Rattle.wh_meaning.specs.Bag.{Bag}
use Rattle.wh_meaning.specs.Query.{eval}
use Rattle.wh_meaning.specs.Listing.{listed}
use Rattle.wh_algebra.specs.View.{query_of}
use Rattle.wh_listing.specs.View.{keys_of}
use Rattle.wh_bind.specs.declared.select.BoundSelect.{BoundSelect}
use Rattle.wh_ddl_bind.specs.View.{select_of}
use Rattle.wh_reply.specs.Reply.{Refusal, NumberOutOfRange, Listing}
use Rattle.wh_machine.specs.Tests.{first_of}
use Rattle.wh_machine.specs.Outcome.{Machine, Outcome, Refuses, answers, unless}
use Rattle.wh_machine.specs.Queries.{listing_of}
use Rattle.wh_machine.specs.Reading.{instance_read, reading_refusal}
use Rattle.wh_machine.specs.Statements.{selects}
use Rattle.wh_decide.specs.Sources.{sources_refusal}
use Rattle.wh_decide.proofs.NamingLemmas.{only_width}

-- its bag over what is read
abbrev pub bag_in : Machine → ℕ → BoundSelect → Option Bag
bag_in m session b = eval (query_of b.query) (instance_read m session b.sources.items)

tested : (m : Machine) (session : ℕ) (b : BoundSelect) (found : Option Refusal)
    → sources_refusal m b.is_wide b.sources.items ≡ found
    → selects m session (select_of b) ≡ unless found (listing_of m (select_of b) (bag_in m session b))
unfolding selects
tested m session b found is =
    ap (λ (wide : Option Refusal). unless
    (first_of (wide ∷ reading_refusal m.state.objects m.state.last b.sources.items ∷ []))
    (listing_of m (select_of b) (bag_in m session b))) (only_width b.is_wide)
    ∙ ap (λ (first : Option Refusal). unless first (listing_of m (select_of b) (bag_in m session b))) is

pub is_unread : (m : Machine) (session : ℕ) (b : BoundSelect) (why : Refusal)
    → sources_refusal m b.is_wide b.sources.items ≡ Some why
    → selects m session (select_of b) ≡ Refuses why
is_unread m session b why is = tested m session b (Some why) is

-- its rows, or that they are undefined
abbrev shown_by : Machine → BoundSelect → Option (List Row) → Outcome
shown_by m b None = Refuses NumberOutOfRange
shown_by m b (Some rows) = answers m (Listing b.names.items rows)

listed_as : (m : Machine) (b : BoundSelect) (bag : Option Bag)
    → listing_of m (select_of b) bag ≡ shown_by m b (option_map (listed (keys_of b.keys.items)) bag)
listed_as m b None = refl
listed_as m b (Some bag) = refl

shown_as : (m : Machine) (session : ℕ) (b : BoundSelect) (found : Option (List Row))
    → sources_refusal m b.is_wide b.sources.items ≡ None
    → found ≡ option_map (listed (keys_of b.keys.items)) (bag_in m session b)
    → selects m session (select_of b) ≡ shown_by m b found
shown_as m session b found read is =
    tested m session b None read
    ∙ listed_as m b (bag_in m session b) ∙ ap (shown_by m b) (sym is)

pub is_shown : (m : Machine) (session : ℕ) (b : BoundSelect) (rows : List Row)
    → sources_refusal m b.is_wide b.sources.items ≡ None
    → Some rows ≡ option_map (listed (keys_of b.keys.items)) (bag_in m session b)
    → selects m session (select_of b) ≡ answers m (Listing b.names.items rows)
is_shown m session b rows = shown_as m session b (Some rows)

pub is_undefined : (m : Machine) (session : ℕ) (b : BoundSelect) → sources_refusal m b.is_wide b.sources.items ≡ None
    → None ≡ option_map (listed (keys_of b.keys.items)) (bag_in m session b)
    → selects m session (select_of b) ≡ Refuses NumberOutOfRange
is_undefined m session b = shown_as m session b None
