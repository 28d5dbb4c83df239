-- What a `StoredStream` stands for.
use Rattle.std.specs.Prelude.{map}
use Rattle.wh_value.specs.View.{column_of}
use Rattle.wh_state.specs.State as machine
use Rattle.wh_catalog.specs.declared.stream.StoredStream.{StoredStream}

abbrev pub stream_of : StoredStream → machine.Stream
stream_of s = record {
  source = s.source;
  is_append_only = s.is_append_only;
  offset = s.offset;
  columns = map column_of s.columns.items;
}
