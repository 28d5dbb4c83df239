use Rattle.std.proofs.Common.{◌≡◌, [], ◌∷◌, ◌++◌, length, refl, rules}
use Rattle.wh_world.specs.Bytes.{written}
use Rattle.wh_world.specs.Events.{wrote}
use Rattle.wh_world.specs.Logged.{events}
use Rattle.wh_world.specs.declared.logged.Logged.TheVariants.{Wrote}
use Rattle.wh_world.proofs.Joining.{agrees_wrote, events_wrote}
use Rattle.wh_world.proofs.mem_disk.MemDisk.keep_write.Goals as goal

pub invariant_of-self : goal.invariant_of-self
invariant_of-self c =
    let log : c.push.new.self.items ≡ c.self.inside.log.items ++ Wrote c.args.at (length c.args.piece.now) ∷ [] =
    search rules in
    let pieces : c.extend_from_slice.new.self.items ≡ c.self.inside.pieces.items ++ c.args.piece.now = search rules in
    let bytes : c.overwrite.new.bytes.items ≡ written c.self.inside.bytes.items c.args.at c.args.piece.now =
    search rules in
    let agrees =
    rw (← log, ← pieces, ← bytes) at (agrees_wrote _ _ _ c.args.piece.now _ c.args.at c.self.invariant.0) in
    (agrees, search rules, search rules, search rules)

pub returns : goal.returns
returns c =
    let log : c.push.new.self.items ≡ c.self.inside.log.items ++ Wrote c.args.at (length c.args.piece.now) ∷ [] =
    search rules in
    let pieces : c.extend_from_slice.new.self.items ≡ c.self.inside.pieces.items ++ c.args.piece.now = search rules in
    let past : events [] c.push.new.self.items c.extend_from_slice.new.self.items
    ≡ wrote c.args.at c.args.piece.now ∷ events [] c.self.inside.log.items c.self.inside.pieces.items =
    rw (log, pieces) (events_wrote [] c.self.inside.log.items c.self.inside.pieces.items c.args.piece.now c.args.at
    c.self.invariant.0.spelled) in
    rw (← c.self.view_is, past) refl
