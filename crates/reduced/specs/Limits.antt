-- A limit that is remembered: how much it is, and what is printed of it.
use Rattle.std.specs.Prelude.{ℕ, List, Bool, true, false, codes, decimal}
use Rattle.reduced.specs.declared.Limit.{Limit}
use Rattle.reduced.specs.declared.Limit.TheVariants.{Absent, Number, Flag}

-- what is absent is as little as 0, and a flag that is set is more than one that is not
abbrev pub size_of : Limit → ℕ
size_of Absent = 0
size_of (Number n) = n
size_of (Flag true) = 1
size_of (Flag false) = 0

abbrev pub limit_text : Limit → List ℕ
limit_text Absent = codes "absent"
limit_text (Number n) = decimal n
limit_text (Flag true) = codes "set"
limit_text (Flag false) = codes "not set"
