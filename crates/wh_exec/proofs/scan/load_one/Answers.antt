use Rattle.std.proofs.Common.{[], ◌∷◌, sym, ap, ◌∙◌}
use Rattle.wh_filed.specs.Filed.{loaded_of}
use Rattle.wh_filed.specs.Asking.{id_of}
use Rattle.wh_filed.proofs.AskingLaws.{none_among, among_one}
use Rattle.wh_meaning.specs.Bag.{beside}
use Rattle.wh_meaning.proofs.Gathered.{beside-nothing}
use Rattle.wh_exec.proofs.PartLaws.{meant, meant-one}
use Rattle.wh_exec.proofs.BatchLaws.{one_loaded}
use Rattle.wh_exec.proofs.scan.load_one.Goals as goal

pub returns-then-is_passed_over-clause-loaded : goal.returns-then-is_passed_over-clause-loaded
returns-then-is_passed_over-clause-loaded g c shown =
    let before = meant c.args.steps.now (loaded_of c.args.loaded.now.items) in
    sym (ap (beside before) (c.is_passed_over.ensures c.if-is_passed_over.true) ∙ beside-nothing before)

pub returns-then-is_passed_over-clause-asks : goal.returns-then-is_passed_over-clause-asks
returns-then-is_passed_over-clause-asks g c =
    none_among (id_of c.args.filed.now ∷ []) (g.F.Fetch.asked c.args.fetch.now)

pub returns-clause-loaded : goal.returns-clause-loaded
returns-clause-loaded g c shown =
    let before = meant c.args.steps.now (loaded_of c.args.loaded.now.items) in
    one_loaded c.args.steps.now c.args.loaded.now.items c.push.new.self.items c.in_ok-part.part c.args.filed.now.partition
    c.in_ok-push.ensures.items (c.in_ok-part.ensures.loaded shown)
    ∙ ap (beside before) (sym (meant-one c.args.steps.now c.args.filed.now.partition))

pub returns-clause-asks : goal.returns-clause-asks
returns-clause-asks g c =
    among_one (id_of c.args.filed.now) c.fetch_one.result _ _ c.fetch_one.ensures.asks
