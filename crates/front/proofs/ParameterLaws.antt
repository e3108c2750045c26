-- Laws of the parameter at the front, proved. Assumes nothing.
use mathlib.Core.Path.{ap, ◌∙◌}
use Rattle.front.specs.ParameterLaws.{ParameterLaws}
use Rattle.front.proofs.Front.{front_parameter}
use Rattle.front.proofs.Split.{cut_out_lem}
use Rattle.front.proofs.Position.{cut_out, located_front}
use Rattle.front.proofs.Parts.{parameters_concat}

pub parameter_laws : ParameterLaws
parameter_laws =
    record {
      front_parameter = front_parameter;
      cut_out = λ bs i e. let c = cut_out_lem bs i e in (c.w, (c.are, c.whole));
      located_front = λ s at p e. located_front s at ∙ ap (cut_out s) e;
      located_fault = λ s at f e. located_front s at ∙ ap (cut_out s) e;
      parameters_concat = parameters_concat;
    }
