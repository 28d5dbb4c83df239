-- What a `Version` stands for.
--     version_in     the version of the machine
--     filed_by       each partition that there was by then, whether it stands in it or not
use Rattle.std.specs.Prelude.{List}
use Rattle.wh_state.specs.Stored.{StoredVersion}
use Rattle.wh_filed.specs.Filed.{Filed}
use Rattle.wh_version.specs.declared.version.Version.{Version}
use Rattle.wh_version.specs.Lasting.{filed_in, standing_at}

abbrev pub version_in : Version → StoredVersion
version_in v = record {
  stamp = v.stamp;
  data_timestamp = v.data_timestamp;
  content = standing_at v.place v.kept.now;
}

abbrev pub filed_by : Version → List Filed
filed_by v = filed_in v.kept.now
