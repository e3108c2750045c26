-- Parameters at distinct places, in any order, for any catalogue: nothing here names a place.
-- Assumes nothing.
--     ordered         distinct places: what is read is the values of these
--     every_order     all places: what is read is all the values, in every order
use Prim.Native.Nat.{ℕ, ◌≤◌, ◌<◌}
use mathlib.Core.Path.{◌≡◌, refl, sym, ◌∙◌, fun_ext}
use mathlib.Core.List.{List, [], ◌∷◌, ◌++◌}
use mathlib.Core.Option.{none}
use mathlib.Core.Bool.{Bool, true, false}
use lib.ListN.{length}
use lib.Dec.{ltb}
use borrow.Author.Tests.{ltb-true, ltb-false, eq-eqb, ne_eqb}
use Rattle.refusal.specs.Outcome.{accepted, pick}
use Rattle.catalogue.specs.Catalogue.{places}
use Rattle.record.specs.Values.{Values, no_values, upd}
use Rattle.reader.specs.Reading.{parse}
use Rattle.reader.proofs.Run.{parse_nil, upd_at}
use Rattle.words.specs.Words.{member}
use Rattle.order.specs.Order.{distinct}
use Rattle.writer.specs.Writing.{concat_of}
use Rattle.order.proofs.Orders.{first, full}
use Rattle.canonical.specs.OperationLaws.{Adds}

-- values but those of some places
unfoldable pub without : List ℕ → Values → Values
without os t q = pick (member q os) none (t q)

-- by induction on the order, from the values of all places but those that are to come
pub ordered : (t : Values) (f : ℕ → List ℕ) → Adds t f → (os : List ℕ) → distinct os ≡ true → parse (without os t) (concat_of f os) ≡ accepted t
unfolding without
ordered t f h [] d = parse_nil t
ordered t f h (p ∷ os) d =
    let k = first p os d in
    let e : upd (without (p ∷ os) t) p (t p) ≡ without os t
    = upd_at (without (p ∷ os) t) (without os t) p (t p) (rw k.new) (λ q n. rw (ne_eqb q p n)) in
    let z : without (p ∷ os) t p ≡ none = rw (eq-eqb p p refl) in
    h p k.below (without (p ∷ os) t) (concat_of f os) z ∙ rw e (ordered t f h os k.more)

pub every_order : (t : Values) (f : ℕ → List ℕ) → Adds t f → ((q : ℕ) → places ≤ q → t q ≡ none)
    → (os : List ℕ) → distinct os ≡ true → length os ≡ places → parse no_values (concat_of f os) ≡ accepted t
unfolding without no_values
every_order t f h b os d n = rw e (ordered t f h os d)
  where
    at : (q : ℕ) (c : Bool) → ltb q places ≡ c → none ≡ without os t q
    at q true k = rw (full os d n q (ltb-true q places k))
    at q false k = go (member q os)
      where
        go : (m : Bool) → none ≡ pick m none (t q)
        go true = refl
        go false = sym (b q (ltb-false q places k))

    e : no_values ≡ without os t
    e = fun_ext λ q. at q _ refl
