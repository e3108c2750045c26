-- How the code goes about it: nothing to believe, since the contract of `reader::read` is an
-- equation with `read` (reader/specs/Reading.antt). The record of what is kept of an extension.
use Rattle.std.specs.Prelude.{ℕ, ◌≡◌, List, true}
use Rattle.std.proofs.Math.Option.{Option, none, some}
use Rattle.words.specs.Words.{elements}
use Rattle.marks.specs.Mark.{marked}
use Rattle.catalogue.specs.Catalogue.{Kind, fits}
use Rattle.record.specs.declared.TransportParameters.{TransportParameters}
use Rattle.record.specs.Values.{cid_in, token_in, address_in, versions_in, no_reserved, no_order}
use Rattle.index.specs.Index.{Found, value_at, number_received}

unfoldable pub record_kept : List ℕ → Found → TransportParameters
record_kept s f =
    record {
      numbers = elements 11 0 f.1;
      disable_active_migration = marked f.0 13;
      max_datagram_frame_size = number_received f 14;
      initial_src_cid = cid_in (value_at s f 17);
      grease_quic_bit = marked f.0 19;
      min_ack_delay = number_received f 20;
      original_dst_cid = cid_in (value_at s f 16);
      retry_src_cid = cid_in (value_at s f 18);
      stateless_reset_token = token_in (value_at s f 12);
      preferred_address = address_in (value_at s f 15);
      version_information = versions_in (value_at s f 21);
      grease_transport_parameter = no_reserved;
      write_order = no_order;
    }

-- a value of the kind, or none
abbrev pub FitsIfAny : Kind → Option (List ℕ) → Type 0
FitsIfAny k none = Unit {0}
FitsIfAny k (some v) = fits k v ≡ true
