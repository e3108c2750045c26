-- `index::Kept::id_length` meets its contract. Assumes nothing.
use mathlib.Core.Path.{◌∙◌}
use native.Mathlib.Omega.{arith}
use Rattle.index.proofs.Parts.{address_no, id_there, id_none, of_bytes}
use Rattle.index.proofs.Kept.id_length.Goals as goal

pub bounds-v-24 : goal.bounds-v-24
bounds-v-24 c = (id_there _ _ c.args.self.now.sound _ (c.in-Some.ensures ∙ of_bytes _ _ 15 (omega arith) address_no)).0

pub returns-in-Some : goal.returns-in-Some
returns-in-Some c = (id_there _ _ c.args.self.now.sound _ (c.in-Some.ensures ∙ of_bytes _ _ 15 (omega arith) address_no)).1

pub returns-in-None : goal.returns-in-None
returns-in-None c = id_none _ _ c.args.self.now.sound (c.in-None.ensures ∙ of_bytes _ _ 15 (omega arith) address_no)
