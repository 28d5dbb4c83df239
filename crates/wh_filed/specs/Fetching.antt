-- What a reader has to know of the fetch that it asks for partitions.
--     IsMetaFor                what is known of a partition without its rows, and where it stands
--     IsShownBy, AllShownBy    what is told of a partition that is so described is what it was
--     IsCovered, AllCovered    it may be asked for by any such description
use Rattle.std.specs.Prelude.{◌≡◌, vec_len, List, Option, Some}
use Rattle.std.specs.List.{AllByRecursion}
use Rattle.wh_frame.specs.Partition.{Partition}
use Rattle.wh_part.specs.Meta.{IsMetaOf}
use Rattle.wh_part.specs.declared.meta.PartMeta.{PartMeta}
use Rattle.wh_filed.specs.Filed.{Filed}

pub record IsMetaFor (meta : PartMeta) (f : Filed) : Type 0 where
  pub object : meta.id.object ≡ f.object
  pub place : (meta.at ≡ f.at) × (meta.length ≡ f.length) × (vec_len meta.columns ≡ f.width)
  pub says : IsMetaOf meta f.partition

abbrev pub IsShownBy : (PartMeta → Option Partition) → Filed → Type 0
IsShownBy contents f = (meta : PartMeta) → IsMetaFor meta f → contents meta ≡ Some f.partition

abbrev pub AllShownBy : (PartMeta → Option Partition) → List Filed → Type 0
AllShownBy contents filed = AllByRecursion (IsShownBy contents) filed

abbrev pub IsCovered : (PartMeta → Type 0) → Filed → Type 0
IsCovered covers f = (meta : PartMeta) → IsMetaFor meta f → covers meta

abbrev pub AllCovered : (PartMeta → Type 0) → List Filed → Type 0
AllCovered covers filed = AllByRecursion (IsCovered covers) filed
