use Rattle.std.proofs.Common.{◌≡◌, [], ◌∷◌, ◌++◌, refl, rules}
use Rattle.wh_world.specs.Logged.{events}
use Rattle.wh_world.specs.Events.{synced}
use Rattle.wh_world.specs.declared.logged.Logged.TheVariants.{Synced}
use Rattle.wh_world.proofs.Joining.{agrees_synced, events_synced}
use Rattle.wh_world.proofs.mem_disk.MemDisk.keep_sync.Goals as goal

pub invariant_of-self : goal.invariant_of-self
invariant_of-self c =
    let log : c.push.new.self.items ≡ c.self.inside.log.items ++ Synced ∷ [] = search rules in
    let agrees = rw (← log) at (agrees_synced _ _ _ _ c.self.invariant.0) in
    (agrees, search rules, search rules, search rules)

pub returns : goal.returns
returns c =
    let log : c.push.new.self.items ≡ c.self.inside.log.items ++ Synced ∷ [] = search rules in
    let past : events [] c.push.new.self.items c.self.inside.pieces.items
    ≡ synced ∷ events [] c.self.inside.log.items c.self.inside.pieces.items =
    rw log (events_synced [] c.self.inside.log.items c.self.inside.pieces.items) in
    rw (← c.self.view_is, past) refl
