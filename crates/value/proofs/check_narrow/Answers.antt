-- `value::check_narrow` meets its contract: the tests that led to each `return` tell the kind.
-- Assumes nothing.
use mathlib.Core.Path.{refl, sym, ◌∙◌}
use Rattle.catalogue.specs.Catalogue.{number, flag, cid, token, address, versions, reserved, fits, illegal}
use Rattle.value.specs.Value.{held_of, check_kind}
use Rattle.value.proofs.Checks.{by_length, number_at_lem, cid_at_lem, flag_at, token_at, address_at_lem, versions_at_lem, none_at, for_place}
use Rattle.value.proofs.check_narrow.Goals as goal

pub returns-then-is_marked : goal.returns-then-is_marked
returns-then-is_marked c = let a = c.args in for_place a.place number a.start a.v.now _ (number_at_lem a.place (sym c.is_marked.ensures ∙ c.if-is_marked.true)) c.check_number.ensures

pub returns-then-is_marked-2 : goal.returns-then-is_marked-2
unfolding illegal fits held_of
returns-then-is_marked-2 c = let a = c.args in for_place a.place cid a.start a.v.now _ (cid_at_lem a.place (sym c.is_marked-2.ensures ∙ c.if-is_marked-2.true)) (c.fits_if.ensures ∙ rw c.stands.ensures (by_length a.start a.v.now cid _ refl refl refl))

pub returns-then-is_marked-3 : goal.returns-then-is_marked-3
unfolding illegal fits held_of
returns-then-is_marked-3 c = let a = c.args in for_place a.place flag a.start a.v.now _ (flag_at a.place (sym c.is_marked-3.ensures ∙ c.if-is_marked-3.true)) (c.fits_if-then-is_marked-3.ensures ∙ rw (c.is_empty.ensures, c.stands-then-is_marked-3.ensures) (by_length a.start a.v.now flag _ refl refl refl))

pub returns-then-place-eq-STATELESS_RESET_TOKEN : goal.returns-then-place-eq-STATELESS_RESET_TOKEN
unfolding illegal fits held_of
returns-then-place-eq-STATELESS_RESET_TOKEN c = let a = c.args in for_place a.place token a.start a.v.now _ (token_at a.place c.if-place-eq-STATELESS_RESET_TOKEN.true) (c.fits_if-then-place-eq-STATELESS_RESET_TOKEN.ensures ∙ rw c.stands-then-place-eq-STATELESS_RESET_TOKEN.ensures (by_length a.start a.v.now token _ refl refl refl))

pub returns-then-place-eq-PREFERRED_ADDRESS : goal.returns-then-place-eq-PREFERRED_ADDRESS
returns-then-place-eq-PREFERRED_ADDRESS c = let a = c.args in for_place a.place address a.start a.v.now _ (address_at_lem a.place c.if-place-eq-PREFERRED_ADDRESS.true) c.check_address.ensures

pub returns-then-place-eq-VERSION_INFORMATION : goal.returns-then-place-eq-VERSION_INFORMATION
returns-then-place-eq-VERSION_INFORMATION c = let a = c.args in for_place a.place versions a.start a.v.now _ (versions_at_lem a.place c.if-place-eq-VERSION_INFORMATION.true) c.check_versions.ensures

pub returns : goal.returns
unfolding check_kind illegal fits
returns c =
    let a = c.args in
    let n = sym c.is_marked.ensures ∙ c.if-is_marked.false in
    let i = sym c.is_marked-2.ensures ∙ c.if-is_marked-2.false in
    let f = sym c.is_marked-3.ensures ∙ c.if-is_marked-3.false in
    for_place a.place reserved a.start a.v.now _ (none_at a.place n i f c.if-place-eq-STATELESS_RESET_TOKEN.false c.if-place-eq-PREFERRED_ADDRESS.false c.if-place-eq-VERSION_INFORMATION.false) refl
