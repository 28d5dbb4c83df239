use Rattle.std.proofs.Common.{◌≡◌, ℕ, List, ◌+◌, [], ◌∷◌, map, Some, None, option_map, ap, sym, ◌∙◌, arith}
use Rattle.wh_ddl_bind.specs.View.{new_stream_of}
use Rattle.wh_reply.specs.Reply.{CreatedStream, DdlInTransaction, Locked}
use Rattle.wh_reply.specs.View.{refusal_view}
use Rattle.wh_record.specs.View.{change_of}
use Rattle.wh_state.specs.Act.{MakesStream}
use Rattle.wh_state.specs.Commit.{CreatesStream}
use Rattle.wh_state.specs.Written.{written}
use Rattle.wh_machine.specs.Sessions.{number_in}
use Rattle.wh_machine.specs.Outcome.{commits}
use Rattle.wh_machine.specs.Definitions.{holder_of}
use Rattle.wh_machine.specs.Streams.{stream_refusal}
use Rattle.wh_catalog.specs.Catalog.{stored_of, state_of}
use Rattle.wh_txn.specs.View.{sessions_of}
use Rattle.wh_decide.specs.Sight.{machine_in}
use Rattle.wh_decide.proofs.CatalogLemmas.{count_is}
use Rattle.wh_decide.proofs.OutcomeLemmas.{decides_as}
use Rattle.wh_decide.proofs.DefineLemmas.{none_past}
use Rattle.wh_decide.proofs.StreamLemmas.{defines_stream, within_limits, stream_written}
use Rattle.wh_decide.proofs.streams.create_stream.Goals as goal

pub returns-in-Some : goal.returns-in-Some
returns-in-Some c =
    let sight = c.args.sight.now in
    let why = refusal_view c.in-Some.why in
    defines_stream (state_of sight.catalog.now) sight.stamp (sessions_of sight.sessions.now) sight.session
    (new_stream_of c.args.stream) _ (Some why) c.stream_refusal-wrong.ensures
    (sym (ap (option_map refusal_view) c.in-Some.is) ∙ c.definition_refusal.ensures)

pub overflow_add-id : goal.overflow_add-id
overflow_add-id c =
    let sight = c.args.sight.now in
    let passed : stream_refusal (state_of sight.catalog.now) None (new_stream_of c.args.stream) ≡ None =
    sym c.stream_refusal-wrong.ensures ∙ none_past
    (option_map DdlInTransaction (number_in (sessions_of sight.sessions.now) sight.session))
    (option_map refusal_view c.stream_refusal-wrong.result)
    (option_map Locked (holder_of (sessions_of sight.sessions.now) None))
    (sym c.definition_refusal.ensures ∙ ap (option_map refusal_view) c.in_default.is) in
    omega (
      arith,
      within_limits (state_of sight.catalog.now) (new_stream_of c.args.stream) passed,
      c.object_count.ensures.count,
      count_is sight.catalog.now,
    )

pub returns : goal.returns
returns c =
    let sight = c.args.sight.now in
    let n = new_stream_of c.args.stream in
    let objects = (stored_of sight.catalog.now).objects in
    let made = MakesStream n.name n.table n.is_append_only ∷ [] in
    let items : map change_of c.in_ok-changes.changes.items ≡ written sight.stamp objects made =
    ap (map change_of) c.in_ok-changes.ensures.items
    ∙ (λ i. (c.stream_change.ensures
    ∙ ap (λ (count : ℕ). CreatesStream (record {
      id = count + 1;
      name = n.name;
      source = n.table;
      is_append_only = n.is_append_only;
      offset = sight.stamp;
    })) c.object_count.ensures.count) i ∷ [])
    ∙ stream_written sight.stamp objects n.name n.table n.is_append_only in
    decides_as sight c.defined.result
    (ap (λ (name : List ℕ). commits (machine_in sight) (CreatedStream name) made) c.in_ok-copy.ensures
    ∙ sym (defines_stream (state_of sight.catalog.now) sight.stamp (sessions_of sight.sessions.now) sight.session n _
    None c.stream_refusal-wrong.ensures
    (sym (ap (option_map refusal_view) c.in_default.is) ∙ c.definition_refusal.ensures)))
    (c.defined.ensures.comes made items)
