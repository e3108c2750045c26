-- Complaints: which are of usage, which one text that is not hexadecimal gives, and their words.
use Rattle.std.specs.Prelude.{ℕ, List, ◌++◌, Bool, true, false, Option, Some, None, codes, decimal}
use Rattle.text.specs.declared.HexError.{HexError}
use Rattle.text.specs.declared.HexError.TheVariants.{Strange, Odd, Long}
use Rattle.form.specs.Complaints.{slip_text}
use Rattle.yuthpram_cli.specs.declared.complaint.Complaint.{Complaint}
use Rattle.yuthpram_cli.specs.declared.complaint.Complaint.TheVariants.{NoCommand, Surplus, NotDecimal, NoRemembered, NoIds, NoSide, NoId, TooLong, NoDigit, OddDigits, NoEntry, ManyEntries, NotUtf8, Unread, Slip}

-- those about words that no command takes
abbrev pub is_of_usage : Complaint → Bool
is_of_usage NoCommand = true
is_of_usage Surplus = true
is_of_usage NotDecimal = true
is_of_usage NoRemembered = true
is_of_usage NoIds = true
is_of_usage complaint = false

abbrev pub of_hex : HexError → Complaint
of_hex (Strange at) = NoDigit at
of_hex Odd = OddDigits
of_hex Long = TooLong

-- what is printed of a complaint; of what could not be read it is the system's words, of which
-- nothing is stated
abbrev pub complaint_text : Complaint → Option (List ℕ)
complaint_text NoCommand = Some (codes "no such command")
complaint_text Surplus = Some (codes "a word too many")
complaint_text NotDecimal = Some (codes "not a decimal number")
complaint_text NoRemembered = Some (codes "no file of the remembered record")
complaint_text NoIds = Some (codes "the connection IDs seen are three words")
complaint_text NoSide = Some (codes "the side that reads is client or server (try --help)")
complaint_text NoId =
    Some (codes "a connection ID is hexadecimal or (empty), and that of no Retry is none")
complaint_text TooLong =
    Some (codes "the input is over the limit of 65536 bytes, or of 262144 characters of hexadecimal")
complaint_text (NoDigit at) =
    Some (codes "no hexadecimal digit at character " ++ decimal at ++ codes " (counted from 0)")
complaint_text OddDigits = Some (codes "an odd number of hexadecimal digits")
complaint_text (NoEntry k) =
    Some (codes "no number of 0 to 255 at position " ++ decimal k ++ codes " (counted from 0)")
complaint_text ManyEntries = Some (codes "the order is over the limit of 255 entries")
complaint_text (NotUtf8 path) = Some (codes "the name is not UTF-8")
complaint_text (Unread what e) = None
complaint_text (Slip slip) = Some (slip_text slip)
