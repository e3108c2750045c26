-- `name_of` meets its contract. Assumes nothing.
use Rattle.std.proofs.Common.{sym, arith, map, ℕ, List, [], ◌++◌, Bor}
use Rattle.std.proofs.Math.ListN.{get_or-map, get_or-append, get_or-eq_default}
use Rattle.std.proofs.Math.Seq.{get_or-append_right}
use Rattle.catalogue.specs.declared.TheConstants.{NAMES}
use Rattle.show.specs.declared.rows.TheConstants.{PART_NAMES}
use Rattle.show.proofs.rows.name_of.Goals as goal

abbrev names : List (List ℕ)
names = map (λ name. name.now) NAMES

abbrev part_names : List (List ℕ)
part_names = map (λ name. name.now) PART_NAMES

pub returns-then-i-lt-PLACES : goal.returns-then-i-lt-PLACES
returns-then-i-lt-PLACES c = rw (← get_or-map (λ (name : Bor (List ℕ)). name.now)) (sym (get_or-append names part_names [] c.args.i (omega arith)))

pub returns-then-i-lt27 : goal.returns-then-i-lt27
returns-then-i-lt27 c = rw (← get_or-map (λ (name : Bor (List ℕ)). name.now)) (sym (get_or-append_right names part_names c.args.i [] (omega arith)))

pub returns-else-i-lt27 : goal.returns-else-i-lt27
returns-else-i-lt27 c = sym (get_or-eq_default (names ++ part_names) [] {n = c.args.i} (omega arith))
