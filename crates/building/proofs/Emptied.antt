-- The file without records.
use Rattle.std.proofs.Common.{◌≡◌, length, replicate, refl}
use Rattle.cdb.specs.Files.{file_of}
use Rattle.building.specs.Builds.{headed}
use Rattle.building.specs.Empty.{empty_file}

pub empty_header : headed 2048 (replicate 256 (record { offset = 0; slots = 0 })) 256 ≡ empty_file
unfolding headed empty_file file_of
empty_header = refl

pub empty_long : length empty_file ≡ 2048
unfolding empty_file file_of
empty_long = refl
