-- How the code goes about it: nothing to believe, since the contract of `reader::read` is an
-- equation with `read` (reader/specs/Reading.antt). What is kept of an extension: marks of the
-- places met; by place, the number or where the value starts; and the value's length.
use Rattle.std.specs.Prelude.{ℕ, zero, suc, ◌+◌, ◌-◌, ◌%◌, ◌^◌, ◌<◌, ◌≤◌, List, [], ◌∷◌, ◌++◌, ◌≡◌, Bool, true, false, ◌&&◌, length, get_or, take, drop, set, replicate, ltb}
use Rattle.std.specs.Prelude.{None, Some}
use Rattle.std.proofs.Math.Option.{Option, none, some}
use Rattle.refusal.specs.Outcome.{Result, accepted, refused, pick, and_then, all}
use Rattle.words.specs.Words.{elements}
use Rattle.marks.specs.Mark.{marked, mark}
use Rattle.catalogue.specs.Catalogue.{Kind, number, flag, cid, token, address, versions, reserved, places, place_of, kind_at, defaults, fits}
use Rattle.record.specs.Optional.{OptionalNumber}
use Rattle.record.specs.Values.{versions_in}
use Rattle.rules.specs.declared.Side.{Side}
use Rattle.rules.specs.Rules.{is_server, number_rules, presence_rules, version_rules}
use Rattle.front.specs.declared.Fault.{Fault}
use Rattle.front.specs.declared.Fault.TheVariants.{Illegal}
use Rattle.front.specs.Parameter.{located}
use Rattle.front.specs.Whole.{parameters}
use Rattle.tally.specs.declared.Sums.{Sums}
use Rattle.tally.specs.Tally.{counts, dropped}
use Rattle.value.specs.Value.{receive_value}

-- marks, numbers or starts, lengths
abbrev pub Found : Type 0
Found = ℕ × List ℕ × List ℕ

-- before anything is received: the defaults, and 0
unfoldable pub initial_kept : List ℕ
initial_kept = defaults ++ replicate (places - length defaults) 0

unfoldable pub nothing : Found
nothing = (0, initial_kept, replicate places 0)

-- a value more: what is kept of it at its place, and its length
unfoldable pub keep : Found → ℕ → ℕ → ℕ → Found
keep f p x n = (mark f.0 p, set f.1 p x, set f.2 p (n % 256))

-- a parameter: its identifier, where its value starts, and the value. An unknown one is skipped;
-- what a shorter form would have saved is left to the counts
unfoldable pub note : Found → ℕ → ℕ → List ℕ → Result Fault Found
note f id a v =
    pick (ltb (place_of id) places)
    (and_then (receive_value (marked f.0 (place_of id)) (place_of id) a v) λ x. accepted (keep f (place_of id) x.kept (length v)))
    (accepted f)

-- the bytes from one position to another
abbrev pub between : List ℕ → ℕ → ℕ → List ℕ
between s a e = take (e - a) (drop a s)

-- the parameters from a position on, n of them at most
abbrev pub index_in : ℕ → List ℕ → ℕ → Found → Result Fault Found
index_in zero s at f = accepted f
index_in (suc n) s at f =
    pick (ltb at (length s)) (and_then (located s at) λ i. and_then (note f i.id i.start (between s i.start i.end)) λ g. index_in n s i.end g) (accepted f)

-- each has a byte at least
unfoldable pub index_from : List ℕ → ℕ → Found → Result Fault Found
index_from s at f = index_in (length s - at) s at f

-- the value at a place that holds no number
unfoldable pub value_at : List ℕ → Found → ℕ → Option (List ℕ)
value_at s f p = pick (marked f.0 p) (some (take (get_or f.2 p 0) (drop (get_or f.1 p 0) s))) none

-- a kind whose values are no numbers
abbrev pub holds_bytes : Kind → Bool
holds_bytes number = false
holds_bytes flag = true
holds_bytes cid = true
holds_bytes token = true
holds_bytes address = true
holds_bytes versions = true
holds_bytes reserved = true

-- the value at a place; none at one that holds a number
unfoldable pub value_of : List ℕ → Found → ℕ → Option (List ℕ)
value_of s f p = pick (ltb p places && holds_bytes (kind_at p)) (value_at s f p) none

-- the number at one that holds a number
abbrev pub number_received : Found → ℕ → OptionalNumber
number_received f p = pick (marked f.0 p) (Some (get_or f.1 p 0)) None

-- the length of the preferred address's connection ID, 0 if there is no address
unfoldable pub id_len : List ℕ → Found → ℕ
id_len s f = pick (marked f.0 15) (get_or s (get_or f.1 15 0 + 24) 0) 0

-- the value rules, of what is kept
unfoldable pub kept_rules : Side → List ℕ → Found → Bool
kept_rules side s f =
    all (
    number_rules (elements 11 0 f.1) (get_or f.1 20 0)
    ∷ presence_rules (is_server side) (marked f.0 16) (marked f.0 15) (marked f.0 18) (marked f.0 12) (id_len s f)
    ∷ version_rules (is_server side) (versions_in (value_at s f 21))
    ∷ []
    )

-- the whole extension, for a side: the first fault from the front, then the value rules
unfoldable pub indexed : Side → List ℕ → Result Fault Found
indexed side s = and_then (index_from s 0 nothing) λ f. pick (kept_rules side s f) (accepted f) (refused Illegal)

-- of one that a side accepts, for a report: the marks of the places met, and what tidying drops
unfoldable pub counted : Side → List ℕ → Result Fault (ℕ × Sums)
counted side s = and_then (indexed side s) λ f. accepted (f.0, dropped (counts (parameters s)))

-- what is kept of an extension in which no parameter is at fault: only places of the catalogue are
-- marked, and the values that are no numbers lie within it, and fit
pub record Sound (s : List ℕ) (f : Found) : Type 0 where
  pub marks : f.0 < 2 ^ places
  pub long : length f.1 ≡ places
  pub long_lens : length f.2 ≡ places
  pub within : (p : ℕ) → (kind_at p ≡ number → ⊥) → get_or f.1 p 0 + get_or f.2 p 0 ≤ length s
  pub fit : (p : ℕ) → (kind_at p ≡ number → ⊥) → marked f.0 p ≡ true → fits (kind_at p) (take (get_or f.2 p 0) (drop (get_or f.1 p 0) s)) ≡ true
