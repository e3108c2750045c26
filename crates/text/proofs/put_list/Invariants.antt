-- `put_list`: the words behind the first `i`, or from word `k` on, are still to come; those from
-- `from` on are stored. Assumes nothing.
use Rattle.std.proofs.Common.{min}
use Rattle.text.specs.Text.{words_in}
use Rattle.text.proofs.Lists.{Listed}
use Rattle.text.proofs.Splits.{Behind}
use Rattle.text.proofs.put_list.Given as goal

abbrev pub invariant-loop-i : goal.invariant-loop-i
invariant-loop-i l = Behind l.sep l.text l._i (words_in l.words.sep l.words.rest.now)

abbrev pub invariant-loop-k : goal.invariant-loop-k
invariant-loop-k l = Behind l.sep l.text (min l.k l.to) (words_in l.words.sep l.words.rest.now) × Listed l.text l.initial.out l.from l.to l.sep l.at l.k l.out
