use Rattle.std.proofs.Common.{◌+◌, map, ap, ◌∙◌, arith}
use Rattle.wh_value.specs.View.{column_of}
use Rattle.wh_decide.proofs.dynamic_tables.change.Goals as goal

pub overflow_add-id : goal.overflow_add-id
overflow_add-id c = omega (arith, c.requires.room, c.object_count.ensures.count)

pub returns : goal.returns
returns c =
    let columns = c.in_ok-columns.ensures ∙ ap (map column_of) c.deref.ensures.value in
    λ i. record {
      id = c.object_count.ensures.count i + 1;
      name = c.in_ok-name.ensures i;
      lag = c.seconds_of.ensures i;
      is_incremental = c.is_incremental.ensures i;
      query = c.in_ok-query.ensures i;
      columns = columns i;
    }
