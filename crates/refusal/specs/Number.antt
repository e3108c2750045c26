-- The refusals: the number of each, and its words in English.
use Rattle.std.specs.Prelude.{ℕ, List, codes}
use Rattle.refusal.specs.declared.Refusal.{Refusal}
use Rattle.refusal.specs.declared.Refusal.TheVariants.{Malformed, IllegalValue, UnexpectedEnd, VarIntBoundsExceeded, BufferTooShort, InvalidOrder, IllFormed, LimitReduced, InvalidDraw, Cut, Misfit, SecondCopy, CidAbsent, CidMismatch, InvalidSetting, InvalidStream, StreamLimitExceeded, ConnectionLimitExceeded, InvalidFile, InvalidRole, InvalidRange}

abbrev pub number_of : Refusal → ℕ
number_of Malformed = 1
number_of IllegalValue = 2
number_of UnexpectedEnd = 3
number_of VarIntBoundsExceeded = 4
number_of BufferTooShort = 5
number_of InvalidOrder = 6
number_of IllFormed = 7
number_of LimitReduced = 8
number_of InvalidDraw = 9
number_of Cut = 10
number_of Misfit = 11
number_of SecondCopy = 12
number_of CidAbsent = 13
number_of CidMismatch = 14
number_of InvalidSetting = 15
number_of InvalidStream = 16
number_of StreamLimitExceeded = 17
number_of ConnectionLimitExceeded = 18
number_of InvalidFile = 19
number_of InvalidRole = 20
number_of InvalidRange = 21

abbrev pub text_of : Refusal → List ℕ
text_of Malformed = codes "a connection ID that cannot be read"
text_of IllegalValue = codes "a value that is not allowed"
text_of UnexpectedEnd = codes "the input ends within the number"
text_of VarIntBoundsExceeded = codes "the number is 2^62 or more"
text_of BufferTooShort = codes "the output is too short"
text_of InvalidOrder = codes "the order is not a permutation of 0 to 21"
text_of IllFormed = codes "what was handed in is not well formed"
text_of LimitReduced = codes "a remembered limit is reduced"
text_of InvalidDraw = codes "a drawn value is out of range"
text_of Cut = codes "a parameter or setting is cut off"
text_of Misfit = codes "a value does not fit"
text_of SecondCopy = codes "a parameter is sent twice"
text_of CidAbsent = codes "a connection ID that is needed is absent"
text_of CidMismatch = codes "a connection ID is not the one seen"
text_of InvalidSetting = codes "a setting is not allowed or is sent twice"
text_of InvalidStream = codes "a stream is not listed or cannot be started with"
text_of StreamLimitExceeded = codes "the limit of the stream is passed"
text_of ConnectionLimitExceeded = codes "the limit of the connection is passed"
text_of InvalidFile = codes "no file of remembered parameters or no such version"
text_of InvalidRole = codes "no such role"
text_of InvalidRange = codes "the lowest value is above the highest"
