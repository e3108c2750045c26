-- What is printed of a line that is amiss.
use Rattle.std.specs.Prelude.{ℕ, List, ◌++◌, codes, decimal}
use Rattle.form.specs.declared.Complaint.{Complaint}
use Rattle.form.specs.declared.Complaint.TheVariants.{Name, Again, Number, Digits, Token, Flag, Address, Order, Version, ManyVersions, More}
use Rattle.form.specs.declared.Slip.{Slip}

abbrev pub complaint_text : Complaint → List ℕ
complaint_text Name = codes "no such name"
complaint_text Again = codes "a second line of this name"
complaint_text Number = codes "not a decimal number"
complaint_text Digits = codes "not hexadecimal"
complaint_text Token = codes "not 16 bytes in hexadecimal"
complaint_text Flag = codes "a flag has no value, or set"
complaint_text Address = codes "not an address and a port"
complaint_text Order = codes "not 22 places"
complaint_text Version = codes "not a version of 1 to 8 hexadecimal digits"
complaint_text ManyVersions = codes "more than 16 available versions"
complaint_text More = codes "more than a value"

abbrev pub slip_text : Slip → List ℕ
slip_text s = codes "line " ++ decimal s.line ++ codes ": " ++ complaint_text s.what
