use Rattle.std.proofs.Common.{◌≡◌, ◌<◌, ◌^◌, ◌-◌}
use Rattle.wh_moment.specs.Moment.{doubled_up_to}
use Rattle.wh_dynamic.proofs.period.seconds_up_to.Given as goal

-- the doublings that are left give the same
abbrev pub invariant-loop : goal.invariant-loop
invariant-loop l = record {
  same : doubled_up_to (14 - l.counter) l.lag l.seconds ≡ doubled_up_to 14 l.lag 48;
  positive : 0 < l.seconds;
  bounded : l.seconds < 2 ^ 33;
}
