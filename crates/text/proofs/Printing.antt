-- What becomes of the writes so far, by several. Assumes nothing.
--     unchanged         by none
--     becomes_then      by one after another
use mathlib.Core.Path.{refl}
use Rattle.text.specs.declared.out.Fate.{Fate}
use Rattle.text.specs.declared.out.Fate.TheVariants.{Written, Cut, Unread}
use Rattle.text.specs.declared.out.Stream.{Stream}
use Rattle.text.specs.declared.out.Stream.TheVariants.{Output, Error}
use Rattle.text.specs.Printing.{Becomes}

pub unchanged : (to : Stream) (a : Fate) → Becomes to a a
unchanged Output Written = tt
unchanged Error Written = λ e. cc
unchanged to Cut = λ e. cc
unchanged to Unread = refl

pub becomes_then : (to : Stream) (a b c : Fate) → Becomes to a b → Becomes to b c → Becomes to a c
becomes_then Output Written b c x y = tt
becomes_then Error Written Written c x y = y
becomes_then Error Written Cut c x y = absurd (x refl)
becomes_then Error Written Unread c x y = λ e. cc
becomes_then to Cut Written c x y = absurd (x refl)
becomes_then to Cut Cut c x y = y
becomes_then to Cut Unread c x y = λ e. cc
becomes_then to Unread Written c x y = cc
becomes_then to Unread Cut c x y = cc
becomes_then to Unread Unread c x y = y
