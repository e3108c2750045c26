-- Laws of connection IDs, proved. Assumes nothing.
use Rattle.connection_id.specs.ConnectionIdLaws.{ConnectionIdLaws}
use Rattle.connection_id.proofs.Laws.{cid_back, cid_sound, same_exactly, same_told}

pub connection_id_laws : ConnectionIdLaws
connection_id_laws =
    record {
      cid_back = cid_back;
      cid_sound = λ bs c n e. let s = cid_sound bs c n e in (s.formed, (s.fit, (s.shortest, s.same)));
      same_exactly = same_exactly;
      same_told = same_told;
    }
