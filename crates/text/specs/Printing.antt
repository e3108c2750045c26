-- What may become of the writes so far by one more. What a stream is given has no definition here.
use Rattle.std.specs.Prelude.{◌≡◌, ◌≢◌}
use Rattle.text.specs.declared.out.Fate.{Fate}
use Rattle.text.specs.declared.out.Fate.TheVariants.{Written, Cut, Unread}
use Rattle.text.specs.declared.out.Stream.{Stream}
use Rattle.text.specs.declared.out.Stream.TheVariants.{Output, Error}

-- once nobody reads, nobody does; an answer that was cut stays cut; and a complaint cuts no answer
abbrev pub Becomes : Stream → Fate → Fate → Type 0
Becomes to Unread after = after ≡ Unread
Becomes to Cut after = after ≢ Written
Becomes Output Written after = Unit
Becomes Error Written after = after ≢ Cut
