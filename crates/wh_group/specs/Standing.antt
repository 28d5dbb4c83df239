-- So that what calls have added up, and entries of it, can be what contracts see of a struct.
use Rattle.std.specs.Prelude.{ℕ, List, Option, refl}
use Rattle.std.specs.Coded.{Coded, code_by, coded×, coded_ℕ, coded_list, coded_option}
use Rattle.wh_value.specs.Value.{Row, coded_value}
use Rattle.wh_meaning.specs.Query.{Total}
use Rattle.wh_aggregate.specs.Tally.{coded_total}
use Rattle.wh_maintenance.specs.Standing.{Standing}
use Rattle.wh_maintenance.specs.Entries.{GroupEntry}

abbrev pub coded_standing : Coded Standing
coded_standing = code_by (ℕ × List Total) (coded× coded_ℕ (coded_list coded_total)) (λ s. (s.rows, s.totals))
    (λ p. record { rows = p.0; totals = p.1 }) (λ _. refl)

abbrev pub coded_entry : Coded GroupEntry
coded_entry = code_by (Row × Option Standing) (coded× (coded_list coded_value) (coded_option coded_standing))
    (λ e. (e.key, e.group)) (λ p. record { key = p.0; group = p.1 }) (λ _. refl)
