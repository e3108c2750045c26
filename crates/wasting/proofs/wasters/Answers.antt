-- `wasters` meets its contract: the comparison is an order, in which the sort puts them. Assumes
-- nothing.
use mathlib.Core.Path.{◌≡◌, ap, ◌∙◌}
use lib.Dec.{ltb}
use denote.Ref.{Bor}
use denote.Param.Members.{Mut}
use Rattle.std.proofs.Common.{rules}
use Rattle.std.specs.Cmp.{IsStrictWeakOrder}
use Rattle.std.specs.Fn.{Called, ComparesAs}
use Rattle.std.specs.Ordering.{is_lt, nat_cmp}
use Rattle.std.specs.declared.cmp.Ordering.{Ordering}
use Rattle.std.proofs.slice.Orders.{nat_cmp-ltb}
use Rattle.std.proofs.lemmas.List.MinMax.{IsStrictWeakOrder-flip, IsStrictWeakOrder-by_number}
use Rattle.std.proofs.lemmas.Fn.{always_returns_same}
use Rattle.wasting.specs.declared.Waster.{Waster}
use Rattle.wasting.specs.Wasting.{wastes_more}
use Rattle.wasting.proofs.wasters.Goals as goal

ranked : IsStrictWeakOrder wastes_more
ranked = IsStrictWeakOrder-flip (λ (x y : Waster). ltb x.wasted.bytes y.wasted.bytes) (IsStrictWeakOrder-by_number (λ (x : Waster). x.wasted.bytes))

-- by a comparison of the bytes, the second's with the first's
compares : {F : Type 0} (g : Mut F (Bor Waster × (Bor Waster × Unit {0})) Ordering) (f : F)
    → ((a : Bor Waster × (Bor Waster × Unit {0})) (r : Ordering) (f' : F) → Called g f a r f' → (r ≡ nat_cmp a.1.0.now.wasted.bytes a.0.now.wasted.bytes) × (f' ≡ f)) → ComparesAs g wastes_more f
compares g f h = always_returns_same g (λ a r. is_lt r ≡ wastes_more a.0.now a.1.0.now) f (λ a r f' k. let e = h a r f' k in (ap is_lt e.0 ∙ nat_cmp-ltb _ _, e.1))

pub returns-clause-most_first : goal.returns-clause-most_first
returns-clause-most_first c = c.in_ok-sort_by.ensures.sorted wastes_more ranked (compares _ _ (λ a r f k. search rules))

pub returns-clause-ties : goal.returns-clause-ties
returns-clause-ties c = rw (← c.in_ok-found.ensures) (c.sort_by.ensures.stable wastes_more ranked (compares _ _ (λ a r f k. search rules)))
