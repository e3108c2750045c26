-- `put_versions` is safe: a chosen version and at most 16 available ones are stored. Assumes
-- nothing.
use Rattle.std.proofs.Common.{◌≤◌}
use Rattle.form.proofs.put_versions.Given as goal

abbrev pub invariant-loop-word : goal.invariant-loop-word
invariant-loop-word l = l.count ≤ 17
