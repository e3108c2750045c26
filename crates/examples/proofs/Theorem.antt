-- The worked examples hold, each by computation. Assumes nothing.
use mathlib.Core.Path.{refl}
use mathlib.Core.Option.{or_else}
use Rattle.refusal.specs.Outcome.{all, front, store}
use Rattle.varint.specs.Number.{read_number, form, tag_of}
use Rattle.words.specs.Words.{numbers_bytes, numbers_of}
use Rattle.version_information.specs.VersionInformation.{no_versions, formed_versions, versions_bytes, versions_with}
use Rattle.connection_id.specs.ConnectionId.{cid_of, formed_cid, same_cid}
use Rattle.catalogue.specs.Catalogue.{ids, defaults, other_kinds, kinds, kind_at, id_at, place_of, fits, illegal, parameter}
use Rattle.catalogue.specs.Sum.{sum}
use Rattle.record.specs.Values.{no_values, upd, number_in, number_out, optional_in, optional_out, flag_out, cid_in, cid_out, token_in, token_out, family_in, family_out, address_in, address_out, versions_in, versions_out, no_reserved, no_order, record_of, other_values, values_of}
use Rattle.record.specs.Record.{formed_optional, formed_optional_cid, formed_token, formed_optional_token, formed_family, formed_address, formed_reserved, formed_order, well_formed, bare}
use Rattle.rules.specs.Rules.{number_rules, presence_rules, version_rules, value_rules}
use Rattle.front.specs.Parameter.{saved_head, read_parameter}
use Rattle.front.specs.Whole.{parameters}
use Rattle.tally.specs.Tally.{restates, fate_of, shortest, saved_value, count_of, counts}
use Rattle.report.specs.Report.{report}
use Rattle.reader.specs.Reading.{receive, step, parse, judge, read}
use Rattle.writer.specs.Writing.{reserved_bytes, parameter_at, extension, order_of, write, length_of}
use Rattle.order.specs.Order.{permutation, catalogue_order, order_fault}
use Rattle.tidy.specs.Tidying.{tidy}
use Rattle.resumption.specs.Resumption.{remembered, limits_kept, size_rank, nothing_reduced, resume}
use Rattle.resumption.specs.AbsentAsZero.{sized}
use Rattle.authentication.specs.Authentication.{formed_seen, has_needed, retry_as_seen, as_seen, authenticate_cids}
use Rattle.examples.specs.Examples.{Each, with, examples}

pub hold : Each examples
unfolding all front store read_number form tag_of cid_of formed_cid same_cid ids defaults other_kinds kinds kind_at id_at place_of fits illegal parameter no_values upd number_in number_out optional_in optional_out flag_out cid_in cid_out token_in token_out family_in family_out address_in address_out no_reserved no_order record_of other_values values_of formed_optional formed_optional_cid formed_token formed_optional_token formed_family formed_address formed_reserved formed_order well_formed number_rules presence_rules value_rules bare read_parameter receive step parse judge read reserved_bytes parameter_at extension permutation catalogue_order order_fault or_else order_of write length_of sum tidy remembered limits_kept size_rank nothing_reduced resume sized formed_seen has_needed retry_as_seen as_seen authenticate_cids saved_head parameters restates fate_of shortest saved_value count_of counts report version_rules numbers_bytes numbers_of no_versions formed_versions versions_bytes versions_with versions_in versions_out with examples
hold = (refl, (refl, (refl, (refl, (refl, (refl, (refl, (refl, (refl, (refl, (refl, (refl, (refl, (refl, (refl, (refl, (refl, (refl, (refl, (refl, (refl, (refl, (refl, (refl, (refl, (refl, (refl, (refl, (refl, (refl, (refl, (refl, (refl, (refl, (refl, (refl, (refl, (refl, (refl, (refl, (refl, (refl, (refl, (refl, (refl, (refl, (refl, (refl, (refl, (refl, (refl, (refl, (refl, (refl, (refl, (refl, (refl, (refl, (refl, (refl, (refl, (refl, (refl, (refl, (refl, (refl, (refl, (refl, (refl, (refl, (refl, (refl, (refl, (refl, (refl, (refl, (refl, (refl, (refl, (refl, (refl, (refl, (refl, (refl, (refl, (refl, (refl, (refl, (refl, (refl, tt))))))))))))))))))))))))))))))))))))))))))))))))))))))))))))))))))))))))))))))))))))))))))
