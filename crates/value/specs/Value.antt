-- How the code goes about it: nothing to believe, since the contract of `reader::read` is an
-- equation with `read` (reader/specs/Reading.antt). A value received for a place: a second copy,
-- then one that is illegal, then one that does not fit; and what is kept of one that is none of
-- these.
use Rattle.std.specs.Prelude.{ℕ, List, Bool, true, false}
use Rattle.refusal.specs.Outcome.{Result, accepted, refused, Outcome, pick}
use Rattle.varint.specs.Number.{read_number}
use Rattle.varint.specs.declared.Decoded.{Decoded}
use Rattle.catalogue.specs.Catalogue.{Kind, number, flag, cid, token, address, versions, reserved, kind_at, fits, illegal}
use Rattle.front.specs.declared.Fault.{Fault}
use Rattle.front.specs.declared.Fault.TheVariants.{SecondCopy, Misfit, Illegal}
use Rattle.value.specs.declared.Held.{Held}

-- a kind whose values are told by their length and their first byte
abbrev pub is_simple : Kind → Bool
is_simple number = true
is_simple flag = true
is_simple cid = true
is_simple token = true
is_simple address = false
is_simple versions = false
is_simple reserved = false

-- of a value that holds no number: where it starts
abbrev pub stands : ℕ → Held
stands a = record { kept = a; saved = 0 }

-- of one that does: the number, and how many bytes its shortest form would have saved
abbrev pub holds : Outcome Decoded → Held
holds (accepted x) = record { kept = x.value; saved = x.saved }
holds (refused e) = record { kept = 0; saved = 0 }

unfoldable pub held_of : Kind → ℕ → List ℕ → Held
held_of number a v = holds (read_number v)
held_of flag a v = stands a
held_of cid a v = stands a
held_of token a v = stands a
held_of address a v = stands a
held_of versions a v = stands a
held_of reserved a v = stands a

unfoldable pub check_kind : Kind → ℕ → List ℕ → Result Fault Held
check_kind k a v = pick (illegal k v) (refused Illegal) (pick (fits k v) (accepted (held_of k a v)) (refused Misfit))

abbrev pub check_value : ℕ → ℕ → List ℕ → Result Fault Held
check_value p a v = check_kind (kind_at p) a v

-- a value for a place, which was met before or not: a second copy (RFC 9000 section 7.4), before
-- its value is looked at
unfoldable pub receive_value : Bool → ℕ → ℕ → List ℕ → Result Fault Held
receive_value met p a v = pick met (refused SecondCopy) (check_value p a v)
