-- What becomes of an answer by a complaint. Assumes nothing.
use Rattle.text.specs.declared.out.Fate.{Fate}
use Rattle.text.specs.declared.out.Fate.TheVariants.{Written, Cut, Unread}
use Rattle.text.specs.declared.out.Stream.TheVariants.{Output, Error}
use Rattle.text.specs.Printing.{Becomes}

pub becomes_output : (a b : Fate) → Becomes Error a b → Becomes Output a b
becomes_output Written b x = tt
becomes_output Cut b x = x
becomes_output Unread b x = x
