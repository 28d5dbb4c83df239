use Rattle.std.proofs.Common.{◌≡◌, [], ◌∷◌, ◌++◌, refl, rules}
use Rattle.wh_world.specs.Logged.{events}
use Rattle.wh_world.specs.Events.{tore}
use Rattle.wh_world.specs.declared.logged.Logged.TheVariants.{Tore}
use Rattle.wh_world.proofs.Joining.{agrees_tore, events_tore}
use Rattle.wh_world.proofs.mem_disk.MemDisk.keep_torn.Goals as goal

pub invariant_of-self : goal.invariant_of-self
invariant_of-self c =
    let log : c.push.new.self.items ≡ c.self.inside.log.items ++ Tore c.args.at c.args.size ∷ [] = search rules in
    let agrees = rw (← log) at (agrees_tore _ _ _ _ c.args.at c.args.size c.self.invariant.0) in
    (agrees, search rules, search rules, search rules)

pub returns : goal.returns
returns c =
    let log : c.push.new.self.items ≡ c.self.inside.log.items ++ Tore c.args.at c.args.size ∷ [] = search rules in
    let past : events [] c.push.new.self.items c.self.inside.pieces.items
    ≡ tore c.args.at c.args.size ∷ events [] c.self.inside.log.items c.self.inside.pieces.items =
    rw log (events_tore [] c.self.inside.log.items c.self.inside.pieces.items c.args.at c.args.size) in
    rw (← c.self.view_is, past) refl
