-- How the code goes about it: nothing to believe, since the contract of `writer::write` is an
-- equation with `write` (writer/specs/Writing.antt). Parameters laid one after another, with their
-- ends noted; and copied from there in an order.
use Rattle.std.specs.Prelude.{ℕ, suc, ◌+◌, ◌-◌, ◌≤◌, ◌<◌, List, [], ◌∷◌, ◌++◌, ◌≡◌, Bool, true, length, get_or, take, drop, set}
use Rattle.refusal.specs.Outcome.{pick}
use Rattle.catalogue.specs.Catalogue.{places}
use Rattle.wire.specs.Wire.{put}
use Rattle.record.specs.declared.TransportParameters.{TransportParameters}
use Rattle.words.specs.Words.{zeros}
use Rattle.wire.specs.Stored.{joined}
use Rattle.writer.specs.declared.Draft.{Draft}
use Rattle.writer.specs.Writing.{parameter_at, concat_of, max_extension}

-- parameters behind the first `at` bytes of a buffer, and their ends from entry k of the notes on:
-- how far they go, the buffer, the notes
unfoldable pub laid : List (List ℕ) → ℕ → ℕ → List ℕ → List ℕ → ℕ × List ℕ × List ℕ
laid [] k at out starts = (at, out, starts)
laid (s ∷ ss) k at out starts =
    laid ss (suc k) (at + (put s (drop at out)).0) (take at out ++ (put s (drop at out)).1) (set starts k (at + (put s (drop at out)).0))

-- where each ends, if the first starts at b and there is room
unfoldable pub ends_from : ℕ → List (List ℕ) → List ℕ
ends_from b [] = []
ends_from b (s ∷ ss) = (b + length s) ∷ ends_from (b + length s) ss

-- the parameters due at five places
unfoldable pub five : TransportParameters → ℕ → List (List ℕ)
five r p = parameter_at r p ∷ parameter_at r (p + 1) ∷ parameter_at r (p + 2) ∷ parameter_at r (p + 3) ∷ parameter_at r (p + 4) ∷ []

-- a field whose first n bytes are a value, with zeros behind it
pub record Field (n : ℕ) (v : List ℕ) : Type 0 where
  pub long : 8 ≤ length v
  pub short : length v ≤ 23
  pub within : n ≤ length v
  pub clear : zeros (drop n v) ≡ true

-- room for the parameters still to be laid, zeros from there on and 32 bytes more; and an entry for
-- each end
pub record Room (ss : List (List ℕ)) (at : ℕ) (starts out : List ℕ) : Type 0 where
  pub noted : length starts ≡ places + 1
  pub within : at + length (joined ss) ≤ max_extension
  pub long : max_extension + 32 ≤ length out
  pub clear : zeros (drop at out) ≡ true

-- the same before the parameter of a place
pub record Next (p at : ℕ) (starts out : List ℕ) : Type 0 where
  pub place : p < places
  pub room : Room [] at starts out

-- OF THE CODE'S DRAFT: these are laid behind the first `at` bytes, with their ends noted from entry
-- k on; room for these; and before the parameter of a place
abbrev pub Adds : List (List ℕ) → ℕ → ℕ → Draft → ℕ → Draft → Type 0
Adds ss k at d at' d' = (at', d'.parts, d'.starts) ≡ laid ss k at d.parts d.starts

abbrev pub RoomFor : List (List ℕ) → ℕ → Draft → Type 0
RoomFor ss at d = Room ss at d.starts d.parts

abbrev pub Before : ℕ → ℕ → Draft → Type 0
Before p at d = Next p at d.starts d.parts

-- the parameter at place p, of parts whose places start where the list says
unfoldable pub part_at : List ℕ → List ℕ → ℕ → List ℕ
part_at starts parts p = take (get_or starts (p + 1) 0 - get_or starts p 0) (drop (get_or starts p 0) parts)

-- a part, and sixteen bytes behind it; and room for it
pub record Fit (len room : ℕ) (part out : List ℕ) : Type 0 where
  pub there : len + 16 ≤ length part
  pub small : len ≤ room
  pub within : room ≤ length out

-- bytes stand at the front of a buffer, and nothing changed behind the room for them and others
pub record Front (len room : ℕ) (bs out out' : List ℕ) : Type 0 where
  pub bytes : take len out' ≡ take len bs
  pub rest : drop room out' ≡ drop room out
  pub same : length out' ≡ length out

-- each place of an order has its part, with sixteen bytes behind it
pub record InOrder (order starts parts : List ℕ) : Type 0 where
  pub long : length order ≡ places
  pub each_place : (k : ℕ) → k < places → get_or order k 0 < places
  pub each_part : (p : ℕ) → p < places → (get_or starts p 0 ≤ get_or starts (p + 1) 0) × (get_or starts (p + 1) 0 + 16 ≤ length parts)

-- the parts in the order, if one is present, or the first n bytes of them
unfoldable pub bytes_in : ℕ → Bool → List ℕ → List ℕ → List ℕ → List ℕ
bytes_in n present order starts parts = pick present (concat_of (part_at starts parts) order) (take n parts)

-- there are n bytes either way
pub record Ready (n : ℕ) (present : Bool) (order starts parts : List ℕ) : Type 0 where
  pub count : n ≡ length (bytes_in n present order starts parts)
  pub within : n ≤ length parts
  pub in_order : present ≡ true → InOrder order starts parts
