use Rattle.std.proofs.Common.{◌∙◌, refl}
use Rattle.std.specs.Prelude.{nat_le}
use Rattle.wh_version.specs.declared.times.Time.TheVariants.{Data}
use Rattle.wh_version.specs.History.{versions_of}
use Rattle.wh_version.specs.Times.{is_up_to}
use Rattle.wh_version.proofs.Starts.{last_in}
use Rattle.wh_version.proofs.history.History.at.Goals as goal

pub returns-clause-version : goal.returns-clause-version
unfolding versions_of
returns-clause-version c =
    c.last_up_to.ensures.version
    ∙ last_in c.args.self.now (λ v. nat_le v.data_timestamp c.args.timestamp) (is_up_to Data c.args.timestamp)
    (λ place m. refl)
