-- `text_from` is safe. The invariant: the words so far are within the buffer. Assumes nothing.
use Rattle.std.proofs.Common.{◌≤◌, length}
use Rattle.yuthpram_cli.proofs.input.Args.text_from.Given as goal

abbrev pub invariant-loop-i : goal.invariant-loop-i
invariant-loop-i l = l.n ≤ length l.buffer
