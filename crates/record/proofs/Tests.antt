-- Laws of the tests that the code makes. Assumes nothing.
use Prim.Native.Nat.{ℕ, ◌+◌, ◌≤◌, ◌<◌}
use mathlib.Core.Path.{◌≡◌, refl, sym}
use mathlib.Core.List.{List}
use mathlib.Core.Bool.{◌&&◌, ◌||◌, not, and-true, and_assoc}
use native.Mathlib.Omega.{arith}
use lib.ListN.{length, get_or, drop}
use lib.Dec.{leb, ltb, eqb}
use lib.Bits.{bit_or}
use Rattle.std.proofs.lemmas.Bool.Decides.{nat_tests}
use Rattle.std.proofs.lemmas.List.{drop_all, drop_more}
use Rattle.words.proofs.Laws.{or_below}
use Rattle.varint.specs.Number.{bound}
use Rattle.refusal.specs.Outcome.{all}
use Rattle.words.specs.Words.{zeros, every}
use Rattle.connection_id.specs.ConnectionId.{formed_cid}
use Rattle.record.specs.declared.PreferredAddress.{PreferredAddress}
use Rattle.record.specs.Values.{of_v4, of_v6}
use Rattle.std.specs.Prelude.{None, Some}
use Rattle.record.specs.Optional.{OptionalNumber}
use Rattle.record.specs.Record.{least, formed_optional, formed_family, formed_token, formed_address}

-- the numbers from place i on, with the bits met before them
pub every_drop : (acc : ℕ) (l : List ℕ) (i : ℕ) → i < length l
    → (ltb acc bound && every (λ x. ltb x bound) (drop i l)) ≡ (ltb (bit_or acc (get_or l i 0)) bound && every (λ x. ltb x bound) (drop (i + 1) l))
every_drop acc l i h =
    rw (drop_more l i 0 h, or_below 62 acc (get_or l i 0)) (sym (and_assoc (ltb acc bound) (ltb (get_or l i 0) bound) (every (λ x. ltb x bound) (drop (i + 1) l))))

pub every_end : (acc : ℕ) (l : List ℕ) (i : ℕ) → length l ≤ i → (ltb acc bound && every (λ x. ltb x bound) (drop i l)) ≡ ltb acc bound
every_end acc l i h = rw (drop_all i l h) (and-true (ltb acc bound))

-- at most 2 ^ 62 - 1
pub at_most : (x : ℕ) → leb x 4611686018427387903 ≡ ltb x bound
at_most x = grind (arith, nat_tests)

-- 0 for a number that is absent
pub optional_below : (o : OptionalNumber) → leb (least o) 4611686018427387903 ≡ formed_optional o
unfolding formed_optional
optional_below None = refl
optional_below (Some x) = at_most x

-- what is left of a well-formed address, given what the type of its token says
pub address_formed : (a : PreferredAddress) → length a.stateless_reset_token.bytes ≡ 16
    → formed_address a
    ≡ (formed_family 4 (of_v4 a.address_v4)
    && (formed_family 16 (of_v6 a.address_v6)
    && (formed_cid a.connection_id
    && (a.present
    || (not a.address_v4.present
    && (not a.address_v6.present && (eqb a.connection_id.len 0 && zeros a.stateless_reset_token.bytes)))))))
unfolding formed_address formed_token all
address_formed a h = rw h (simp and-true)
