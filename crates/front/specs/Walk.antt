-- How the code goes about it: nothing to believe, since the contract of `reader::read` is an
-- equation with `read` (reader/specs/Reading.antt). Going through the parameters of some bytes.
use Rattle.std.specs.Prelude.{ℕ, ◌≡◌, ◌≤◌, ◌<◌, length, Option as Maybe, Result as Answer, MatchOption, MatchResult}
use Rattle.front.specs.declared.Fault.{Fault}
use Rattle.front.specs.declared.Parameter.{Parameter}
use Rattle.front.specs.declared.Parameters.{Parameters}
use Rattle.front.specs.Parameter.{located}
use Rattle.front.specs.Answer.{fault_outcome}

-- one step: nothing at the end, and then the position stays; else what stands at the position. A
-- parameter lies behind the position and within the bytes, and the position behind it is the next;
-- after what cannot be read nothing comes
abbrev pub Steps : {c : ℕ} → Parameters c → Maybe (ℕ × Answer Parameter Fault) → Parameters c → Type 0
Steps s r t =
    (t.src.now ≡ s.src.now)
    × MatchOption r ((length s.src.now ≤ s.at) × (t.at ≡ s.at)) λ x.
    (s.at < length s.src.now) × (x.0 ≡ s.at) × (fault_outcome x.1 ≡ located s.src.now s.at)
    × MatchResult x.1
    (λ p. (t.at ≡ p.end) × (s.at < p.start) × (p.start ≤ p.end) × (p.end ≤ length s.src.now))
    (λ f. t.at ≡ length s.src.now)
