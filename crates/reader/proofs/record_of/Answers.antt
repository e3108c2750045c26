-- `reader::record_of` meets its contract: field by field. Assumes nothing.
use native.Mathlib.Omega.{arith}
use mathlib.Core.Path.{refl, ◌∙◌}
use Rattle.catalogue.specs.Catalogue.{cid, token, address, kind_at, kinds, other_kinds}
use Rattle.record.proofs.Defaults.{reserved_absent, order_absent}
use Rattle.index.proofs.Parts.{of_bytes}
use Rattle.reader.specs.Kept.{record_kept}
use Rattle.reader.proofs.Indexed.{kept_fits, no_number, cid_no, token_no, address_no}
use Rattle.reader.proofs.record_of.Goals as goal

pub cid_in-requires : goal.cid_in-requires
unfolding kind_at kinds other_kinds
cid_in-requires c = rw (c.value.ensures ∙ of_bytes _ _ 17 (omega arith) (no_number 17 cid refl cid_no)) (kept_fits cid _ _ c.args.kept.now.sound 17 refl cid_no)

pub cid_in-requires-2 : goal.cid_in-requires-2
unfolding kind_at kinds other_kinds
cid_in-requires-2 c = rw (c.value-2.ensures ∙ of_bytes _ _ 16 (omega arith) (no_number 16 cid refl cid_no)) (kept_fits cid _ _ c.args.kept.now.sound 16 refl cid_no)

pub cid_in-requires-3 : goal.cid_in-requires-3
unfolding kind_at kinds other_kinds
cid_in-requires-3 c = rw (c.value-3.ensures ∙ of_bytes _ _ 18 (omega arith) (no_number 18 cid refl cid_no)) (kept_fits cid _ _ c.args.kept.now.sound 18 refl cid_no)

pub token_in-requires : goal.token_in-requires
unfolding kind_at kinds other_kinds
token_in-requires c = rw (c.value-4.ensures ∙ of_bytes _ _ 12 (omega arith) (no_number 12 token refl token_no)) (kept_fits token _ _ c.args.kept.now.sound 12 refl token_no)

pub address_in-requires : goal.address_in-requires
unfolding kind_at kinds other_kinds
address_in-requires c = rw (c.value-5.ensures ∙ of_bytes _ _ 15 (omega arith) (no_number 15 address refl address_no)) (kept_fits address _ _ c.args.kept.now.sound 15 refl address_no)

pub returns : goal.returns
unfolding record_kept kind_at kinds other_kinds
returns c =
    let x = c.default.ensures in
    let o = c.default-2.ensures in
    rw (
      c.numbers.ensures,
      c.is_met.ensures,
      c.number.ensures,
      c.cid_in.ensures,
      c.value.ensures ∙ of_bytes _ _ 17 (omega arith) (no_number 17 cid refl cid_no),
      c.is_met-2.ensures,
      c.number-2.ensures,
      c.cid_in-2.ensures,
      c.value-2.ensures ∙ of_bytes _ _ 16 (omega arith) (no_number 16 cid refl cid_no),
      c.cid_in-3.ensures,
      c.value-3.ensures ∙ of_bytes _ _ 18 (omega arith) (no_number 18 cid refl cid_no),
      c.token_in.ensures,
      c.value-4.ensures ∙ of_bytes _ _ 12 (omega arith) (no_number 12 token refl token_no),
      c.address_in.ensures,
      c.value-5.ensures ∙ of_bytes _ _ 15 (omega arith) (no_number 15 address refl address_no),
      c.versions.ensures,
      c.entries-entries.ensures,
      reserved_absent c.default.result x.0 x.1.0 x.1.1.0 x.1.1.1,
      order_absent c.default-2.result o.0 o.1,
    )
