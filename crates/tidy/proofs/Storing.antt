-- What storing answers, of parameters laid one after another in a buffer that has room for any.
-- Assumes nothing.
--     laid_front     how many bytes they are, and the buffer afterwards
--     kept_front     the bytes stored, from there
--     put_front, stored_front, stored_none     what putting and storing them answers, with room and
--       without
use Prim.Native.Nat.{ℕ, ◌≤◌, ◌<◌}
use mathlib.Core.Path.{◌≡◌, ap, ◌∙◌}
use mathlib.Core.List.{List, []}
use native.Mathlib.Omega.{arith}
use native.Mathlib.Nat.{zero-add}
use lib.ListN.{length, take, drop}
use lib.Seq.{sets, take-append_seam}
use borrow.Author.Tests.{le-leb, lt-leb}
use Rattle.refusal.specs.Outcome.{accepted, refused, front, store}
use Rattle.wire.specs.Wire.{put}
use Rattle.wire.specs.Stored.{joined}
use Rattle.writer.specs.Laid.{laid, ends_from}
use Rattle.writer.proofs.Laid.{laid_room}

pub laid_front : (ss : List (List ℕ)) (out : List ℕ) → length (joined ss) ≤ length out
    → laid ss 1 0 out [] ≡ (length (joined ss), front (joined ss) out, sets [] 1 (ends_from 0 ss))
laid_front ss out h = laid_room ss 1 0 out [] (omega arith) ∙ ap (λ (n : ℕ). (n, front (joined ss) out, sets [] 1 (ends_from 0 ss))) (zero-add (length (joined ss)))

pub kept_front : (bs out : List ℕ) → take (length bs) (front bs out) ≡ bs
unfolding front
kept_front bs out = take-append_seam bs (drop (length bs) out)

pub put_front : (bs out : List ℕ) → length bs ≤ length out → put bs out ≡ (length bs, front bs out)
unfolding put
put_front bs out h = rw (le-leb _ _ h)

pub stored_front : (bs out : List ℕ) → length bs ≤ length out → store bs out ≡ (accepted (length bs), front bs out)
unfolding store
stored_front bs out h = rw (le-leb _ _ h)

pub stored_none : (bs out : List ℕ) → length out < length bs → store bs out ≡ (refused 5, out)
unfolding store
stored_none bs out h = rw (lt-leb _ _ h)
