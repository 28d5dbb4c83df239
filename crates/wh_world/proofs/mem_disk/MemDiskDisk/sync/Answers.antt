use Rattle.std.proofs.Common.{rules}
use Rattle.wh_world.specs.Events.{synced}
use Rattle.wh_world.proofs.Moments.{goes_on, no_others}
use Rattle.wh_world.proofs.mem_disk.MemDiskDisk.sync.Goals as goal

pub returns-clause-crash : goal.returns-clause-crash
returns-clause-crash c = no_others c.args.self.now c.keep_sync.new.self (search rules)

pub returns-clause-time : goal.returns-clause-time
returns-clause-time c = goes_on c.args.self.now c.keep_sync.new.self synced 0 (search rules)
