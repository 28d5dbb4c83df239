-- The limits of the language.
--     bound               the number that a limit's count doesn't pass, or that it isn't below
--     last_session        there are sessions from 1 up to it
--     days_of_changes     for which a table's changes are kept at least
use Rattle.std.specs.Prelude.{ℕ}
use Rattle.wh_value.specs.declared.limit.Limit.{Limit}
use Rattle.wh_value.specs.declared.limit.Limit.TheVariants as limits

-- stamps, row numbers and partition numbers have 62 bits
abbrev pub bound : Limit → ℕ
bound limits.Statement = 65536
bound limits.Stamp = 4611686018427387904
bound limits.RowNumber = 4611686018427387904
bound limits.PartitionNumber = 4611686018427387904
bound limits.ObjectIds = 4294967295
bound limits.Objects = 1000
bound limits.Name = 255
bound limits.Columns = 64
bound limits.Output = 256
bound limits.GraphTasks = 1000
bound limits.Predecessors = 100
bound limits.Children = 100
-- minutes of a schedule and seconds of a lag, which have a least number too
bound limits.LeastSchedule = 1
bound limits.MostSchedule = 11520
bound limits.LeastTargetLag = 60
bound limits.MostTargetLag = 604800
bound limits.Retention = 90

abbrev pub last_session : ℕ
last_session = 64

abbrev pub days_of_changes : ℕ
days_of_changes = 14
