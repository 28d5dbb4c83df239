use Rattle.std.proofs.Common.{length, rules}
use Rattle.wh_world.specs.Events.{wrote, tore}
use Rattle.wh_world.proofs.Moments.{goes_on, goes_on_torn, follows_wrote}
use Rattle.wh_world.proofs.mem_disk.MemDiskDisk.write_at.Goals as goal

pub returns-then-fails-clause-time : goal.returns-then-fails-clause-time
returns-then-fails-clause-time c =
    goes_on_torn c.args.self.now c.fail-then-fails.new.self (tore c.args.at (length c.args.piece.now)) (search rules)

pub returns-clause-crash : goal.returns-clause-crash
returns-clause-crash c =
    follows_wrote c.args.self.now c.keep_write.new.self c.args.at c.args.piece.now c.requires.place (search rules)

pub returns-clause-time : goal.returns-clause-time
returns-clause-time c =
    goes_on c.args.self.now c.keep_write.new.self (wrote c.args.at c.args.piece.now)
    (length c.args.piece.now) (search rules)
