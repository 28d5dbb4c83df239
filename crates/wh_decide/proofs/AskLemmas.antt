-- What a statement over streams asks for.
--     none_asked        where nothing is asked for
--     moved_one, moved_from     of one stream, up to a start that is another
--     not_standard      of what is no stream
--     moved_more        of one of several, behind those before it
--     bound_unasked, request_unasked     of any statement, or command, that asks for nothing
--     asked_of          of the same streams
--     streams_all       standard streams are streams, also behind a reference
--     none_filed        and of them no partition is filed
use Rattle.std.proofs.Common.{◌≡◌, ◌<◌, ℕ, zero, suc, List, [], ◌∷◌, length, Some, None, is_some, map}
use Rattle.std.proofs.Common.{refl, sym, ap, subst, ◌∙◌, arith, get_or, true, Contains}
use Rattle.std.specs.List.{AllByRecursion, list_all}
use Rattle.wh_part.specs.declared.meta.PartId.{PartId}
use Rattle.wh_filed.specs.Filed.{Filed}
use Rattle.wh_filed.specs.Asking.{AsksFor}
use Rattle.wh_filed.proofs.AskingLaws.{asks_none, asks_on, asks_as}
use Rattle.wh_filed.proofs.FilingLaws.{each_at}
use Rattle.wh_grammar.specs.Spelled.{Request, TooLong, Unreadable, Asked}
use Rattle.wh_machine.specs.Outcome.{Machine}
use Rattle.wh_machine.specs.Reading.{start_in}
use Rattle.wh_machine.specs.Statements.{meant_in}
use Rattle.wh_ddl_naming.specs.Statements as ddl
use Rattle.wh_ddl_naming.specs.Statements.{Bound}
use Rattle.wh_state.specs.State.{Stream}
use Rattle.wh_state.specs.Objects.{stream_at}
use Rattle.wh_catalog.specs.declared.catalog.Catalog.{Catalog}
use Rattle.wh_catalog.specs.Catalog.{stored_of}
use Rattle.wh_stream.specs.Asked.{IsStandard, IsMovedFor}
use Rattle.wh_decide.specs.declared.sources.SourceSeen.{SourceSeen}
use Rattle.wh_decide.specs.declared.sources.SourceSeen.TheVariants as sources
use Rattle.wh_decide.specs.Sources.{is_stream, filed_seen}
use Rattle.wh_decide.specs.Asked.{IsStandardAt, IsMovedBelow, AsksForMoved, AsksAsBound, AsksAsRequested}

held_at : (ids : List ℕ) (place d : ℕ) → place < length ids → Contains ids (get_or ids place d)
held_at [] place d within = absurd (omega (arith, within))
held_at (x ∷ xs) zero d within = (0, within, refl)
held_at (x ∷ xs) (suc place) d within =
    let rest = held_at xs place d (omega (arith, within)) in
    (suc rest.0, omega (arith, rest.1), rest.2)

module _ (c : Catalog) (start : ℕ) where
  pub none_asked : (ids : List ℕ) (names : List PartId) → AsksForMoved c start ids names names
  none_asked ids names standard = asks_none (IsMovedBelow c start ids) names

  -- the stream is that of the id, so it is a standard one
  pub moved_one : (id : ℕ) (s : Stream) (before after : List PartId) → stream_at (stored_of c).objects id ≡ Some s
      → (IsStandard s → AsksFor (IsMovedFor c s start) before after)
      → AsksForMoved c start (id ∷ []) before after
  moved_one id s before after found asks standard =
      asks_as (IsMovedFor c s start) (IsMovedBelow c start (id ∷ [])) before after
      (λ f moved. record { id = id; read = (0, omega arith, refl); stream = s; found = found; moved = moved })
      (asks (is_standard standard.0))
    where
      is_standard : IsStandardAt c id → IsStandard s
      is_standard at =
          let same : at.stream ≡ s = cc (sym at.found ∙ found) in
          subst IsStandard same at.standard

  pub not_standard : (id : ℕ) (before after : List PartId) → stream_at (stored_of c).objects id ≡ None
      → AsksForMoved c start (id ∷ []) before after
  not_standard id before after none standard = absurd (cc (sym none ∙ standard.0.found))

  below_all : (ids : List ℕ) (id : ℕ) → Contains ids id → (f : Filed) → IsMovedBelow c start (id ∷ []) f
      → IsMovedBelow c start ids f
  below_all ids id read f below = record {
    id = below.id;
    read = subst (Contains ids) (sym (only below.read)) read;
    stream = below.stream;
    found = below.found;
    moved = below.moved;
  }
    where
      only : Contains (id ∷ []) below.id → below.id ≡ id
      only (zero, within, is) = sym is
      only (suc i, within, is) = absurd (omega (arith, within))

  pub moved_more : (ids : List ℕ) (place d : ℕ) (first then last : List PartId) → place < length ids
      → AsksForMoved c start ids first then
      → AsksForMoved c start (get_or ids place d ∷ []) then last
      → AsksForMoved c start ids first last
  moved_more ids place d first then last within before here standard =
      let id = get_or ids place d in
      asks_on (IsMovedBelow c start ids) first then last (before standard)
      (asks_as (IsMovedBelow c start (id ∷ [])) (IsMovedBelow c start ids) then last
      (below_all ids id (held_at ids place d within))
      (here (each_at (IsStandardAt c) ids place d standard within, tt)))

  pub bound_unasked : (b : Bound) (names : List PartId) → AsksAsBound c start b names names
  bound_unasked (ddl.Select b) names = none_asked b.sources names
  bound_unasked (ddl.HasData id) names = none_asked (id ∷ []) names
  bound_unasked ddl.Begin names = tt
  bound_unasked ddl.Commit names = tt
  bound_unasked ddl.Rollback names = tt
  bound_unasked (ddl.Change b) names = tt
  bound_unasked (ddl.CreateTable n) names = tt
  bound_unasked (ddl.DropTable id) names = tt
  bound_unasked (ddl.CreateStream n) names = tt
  bound_unasked (ddl.DropStream id) names = tt
  bound_unasked (ddl.CreateTask n) names = tt
  bound_unasked (ddl.ResumeTask id) names = tt
  bound_unasked (ddl.SuspendTask id) names = tt
  bound_unasked (ddl.ExecuteTask root) names = tt
  bound_unasked (ddl.DropTask id) names = tt
  bound_unasked (ddl.CreateDynamicTable n) names = tt
  bound_unasked (ddl.ResumeDynamicTable id) names = tt
  bound_unasked (ddl.SuspendDynamicTable id) names = tt
  bound_unasked (ddl.RefreshDynamicTable id) names = tt
  bound_unasked (ddl.SetTargetLag id lag) names = tt
  bound_unasked (ddl.DropDynamicTable id) names = tt

pub request_unasked : (c : Catalog) (m : Machine) (session : ℕ) (r : Request) (names : List PartId)
    → AsksAsRequested c m session r names names
request_unasked c m session (Asked tree) names = bound_unasked c (start_in m session) (meant_in m tree).value names
request_unasked c m session TooLong names = tt
request_unasked c m session Unreadable names = tt

pub asked_of : (c : Catalog) (start : ℕ) (held ids : List ℕ) (before after : List PartId) → held ≡ ids
    → AsksForMoved c start held before after
    → AsksForMoved c start ids before after
asked_of c start held ids before after is =
    subst (λ (l : List ℕ). AsksForMoved c start l before after) is

pub moved_from : (c : Catalog) (id : ℕ) (s : Stream) (was start : ℕ) (before after : List PartId) → was ≡ start
    → stream_at (stored_of c).objects id ≡ Some s
    → (IsStandard s → AsksFor (IsMovedFor c s was) before after)
    → AsksForMoved c start (id ∷ []) before after
moved_from c id s was start before after is found asks =
    moved_one c start id s before after found
    (subst (λ (n : ℕ). IsStandard s → AsksFor (IsMovedFor c s n) before after) is asks)

-- ---- sources that are streams

all_streams : (c : Catalog) (ids : List ℕ) (seen : List SourceSeen)
    → map is_stream seen ≡ map (λ id. is_some (stream_at (stored_of c).objects id)) ids
    → AllByRecursion (IsStandardAt c) ids
    → list_all is_stream seen ≡ true
all_streams c [] [] same standard = refl
all_streams c [] (s ∷ seen) same standard = cc
all_streams c (id ∷ ids) [] same standard = cc
all_streams c (id ∷ ids) (s ∷ seen) same standard =
    let head : is_stream s ≡ is_some (stream_at (stored_of c).objects id) = cc in
    let here : is_stream s ≡ true = head ∙ ap is_some standard.0.found in
    let rest : map is_stream seen ≡ map (λ id. is_some (stream_at (stored_of c).objects id)) ids = cc in
    rw (here) (all_streams c ids seen rest standard.1)

pub streams_all : (c : Catalog) (seen : List SourceSeen) (held ids : List ℕ) → held ≡ ids
    → map is_stream seen ≡ map (λ id. is_some (stream_at (stored_of c).objects id)) held
    → AllByRecursion (IsStandardAt c) ids
    → list_all is_stream seen ≡ true
streams_all c seen held ids is same standard =
    all_streams c ids seen
    (same ∙ ap (map (λ (id : ℕ). is_some (stream_at (stored_of c).objects id))) is) standard

pub none_filed : (seen : List SourceSeen) → list_all is_stream seen ≡ true → filed_seen seen ≡ []
none_filed [] streams = refl
none_filed (sources.Table table ∷ seen) streams = absurd cc
none_filed (sources.Stream rows ∷ seen) streams = none_filed seen streams
