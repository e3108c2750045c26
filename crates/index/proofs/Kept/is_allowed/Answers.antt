-- `index::Kept::is_allowed` meets its contract. Assumes nothing.
use mathlib.Core.Path.{sym, ◌∙◌}
use mathlib.Core.Bool.{and-true}
use Rattle.refusal.specs.Outcome.{all}
use Rattle.index.specs.Index.{kept_rules}
use Rattle.index.proofs.Kept.is_allowed.Goals as goal

pub returns-then-not-numbers_allowed : goal.returns-then-not-numbers_allowed
unfolding kept_rules all
returns-then-not-numbers_allowed c = rw (← c.numbers.ensures, sym c.numbers_allowed.ensures ∙ c.if-not-numbers_allowed.true)

pub returns-then-not-presence_allowed : goal.returns-then-not-presence_allowed
unfolding kept_rules all
returns-then-not-presence_allowed c =
    rw (
      ← c.numbers.ensures,
      sym c.numbers_allowed.ensures ∙ c.if-not-numbers_allowed.false,
      ← c.is_met-original.ensures,
      ← c.is_met-address.ensures,
      ← c.is_met-retry.ensures,
      ← c.is_met-token.ensures,
      ← c.id_length-id_len.ensures,
      sym c.presence_allowed.ensures ∙ c.if-not-presence_allowed.true,
    )

pub returns : goal.returns
unfolding kept_rules all
returns c =
    rw (
      ← c.numbers.ensures,
      sym c.numbers_allowed.ensures ∙ c.if-not-numbers_allowed.false,
      ← c.is_met-original.ensures,
      ← c.is_met-address.ensures,
      ← c.is_met-retry.ensures,
      ← c.is_met-token.ensures,
      ← c.id_length-id_len.ensures,
      sym c.presence_allowed.ensures ∙ c.if-not-presence_allowed.false,
      and-true,
    )
    c.are_versions_allowed.ensures
