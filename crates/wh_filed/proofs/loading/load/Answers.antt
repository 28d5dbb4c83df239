use Rattle.wh_fetch.specs.DiskFetch.{told_of}
use Rattle.wh_filed.specs.Filed.{filed_at}
use Rattle.wh_filed.proofs.FetchingLaws.{all_shown_by}
use Rattle.wh_filed.proofs.loading.load.Goals as goal

pub returns-clause-loaded : goal.returns-clause-loaded
returns-clause-loaded g c all =
    c.fetch_all.ensures.loaded (all_shown_by (told_of g.D.Disk c.args.fetch.now) (filed_at c.args.filed.now) all)

pub returns-clause-sound : goal.returns-clause-sound
returns-clause-sound g c all =
    c.fetch_all.ensures.sound (all_shown_by (told_of g.D.Disk c.args.fetch.now) (filed_at c.args.filed.now) all)
