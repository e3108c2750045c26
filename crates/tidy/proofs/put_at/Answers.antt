-- `tidy::put_at` meets its contract. Assumes nothing.
use mathlib.Core.Path.{sym, ◌∙◌}
use Rattle.catalogue.specs.Catalogue.{ids, id_at}
use Rattle.index.specs.Answer.{found_of}
use Rattle.index.proofs.Parts.{of_bytes}
use Rattle.value.proofs.Checks.{not_number_at}
use Rattle.tidy.proofs.Pieces.{none_due, number_due, value_due, unmet}
use Rattle.tidy.proofs.put_at.Goals as goal

pub returns-then-not-is_met : goal.returns-then-not-is_met
returns-then-not-is_met c = none_due _ c.args.kept.now.src.now (found_of c.args.kept.now.entries) _ _ (sym (rw c.entries-entries.ensures at c.is_met.ensures) ∙ c.if-not-is_met.true)

pub returns-then-is_marked : goal.returns-then-is_marked
unfolding id_at ids
returns-then-is_marked c = rw c.entries-entries.ensures at c.put_number.ensures ∙ rw (number_due _ c.args.kept.now.src.now (found_of c.args.kept.now.entries) _ (sym (rw c.entries-entries.ensures at c.is_met.ensures) ∙ c.if-not-is_met.false) (sym c.is_marked.ensures ∙ c.if-is_marked.true))

pub returns-in-Some : goal.returns-in-Some
unfolding id_at ids
returns-in-Some c = c.put_value.ensures ∙ rw (value_due _ c.args.kept.now.src.now _ _ _ (sym c.is_marked.ensures ∙ c.if-is_marked.false) (c.in-Some.ensures ∙ of_bytes _ _ _ c.requires (not_number_at _ (sym c.is_marked.ensures ∙ c.if-is_marked.false))))

pub returns-in-None : goal.returns-in-None
returns-in-None c = none_due _ c.args.kept.now.src.now _ _ _ (unmet (id_at c.args.place) _ _ _ (c.in-None.ensures ∙ of_bytes _ _ _ c.requires (not_number_at _ (sym c.is_marked.ensures ∙ c.if-is_marked.false))))
