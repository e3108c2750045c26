-- The rows of a record's text form: where the flag of one stands, and the words of units.
use Rattle.std.specs.Prelude.{ℕ, ◌-◌, List, [], codes, Option, Some, None}
use Rattle.show.specs.declared.rows.Kind.{Kind}
use Rattle.show.specs.declared.rows.Kind.TheVariants.{Number, AddressId, AddressToken}
use Rattle.show.specs.declared.rows.Unit.{Unit}
use Rattle.show.specs.declared.rows.Unit.TheVariants.{Plain, Milliseconds, Microseconds, Bytes, Streams, ConnectionIds}

-- the place of a flag in the image, by what the row holds and where its value starts: a number that
-- is always there has none; the ID and the token of an address have the address's, at 191
abbrev pub flag_of : Kind → ℕ → Option ℕ
flag_of (Number unit) value_at = None
flag_of AddressId value_at = Some 191
flag_of AddressToken value_at = Some 191
flag_of kind value_at = Some (value_at - 1)

abbrev pub unit_text : Unit → List ℕ
unit_text Plain = []
unit_text Milliseconds = codes " milliseconds"
unit_text Microseconds = codes " microseconds"
unit_text Bytes = codes " bytes"
unit_text Streams = codes " streams"
unit_text ConnectionIds = codes " connection IDs"
