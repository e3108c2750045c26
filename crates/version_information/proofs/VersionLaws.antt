-- Laws of version information, proved. Assumes nothing.
use Rattle.version_information.specs.VersionLaws.{VersionLaws}
use Rattle.version_information.proofs.Laws.{bytes_back, versions_long, versions_same, read_formed}

pub version_laws : VersionLaws
version_laws =
    record {
      bytes_back = bytes_back;
      versions_long = versions_long;
      versions_same = versions_same;
      read_formed = read_formed;
    }
