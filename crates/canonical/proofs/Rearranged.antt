-- Whole parameters in another order, proved. Assumes nothing.
use Prim.Native.Nat.{ℕ}
use mathlib.Core.Path.{◌≡◌, refl, ap, sym, ◌∙◌}
use mathlib.Core.List.Permᴰ
use mathlib.Core.List.{List, [], ◌∷◌, ◌++◌}
use lib.ListN.{drop}
use Rattle.refusal.specs.Outcome.{accepted, all}
use Rattle.record.specs.declared.TransportParameters.{TransportParameters}
use Rattle.rules.specs.declared.Side.{Side}
use Rattle.varint.specs.Number.{read_number}
use Rattle.catalogue.specs.Catalogue.{ids, other_kinds, kinds, kind_at, place_of, fits, illegal}
use Rattle.record.specs.Values.{no_values, upd}
use Rattle.front.specs.Parameter.{read_parameter}
use Rattle.front.specs.Whole.{Whole, Rearranged}
use Rattle.front.proofs.Rearranged.{same_length}
use Rattle.reader.specs.Reading.{receive, step, parse, read}
use Rattle.reader.proofs.Rearranged.{rearranged, refused_too}
use Rattle.tidy.specs.Tidying.{tidy_from, tidy}
use Rattle.canonical.specs.Rearrangement.{no_family, left_over, Rearrangement}

tidied_alike : (s : Side) (e e' out : List ℕ) (r : TransportParameters) → Rearranged e e' → read s e ≡ accepted r → tidy s e' out ≡ tidy s e out
unfolding tidy
tidied_alike s e e' out r i k = ap (λ o. tidy_from o out) (rearranged s e e' r i k ∙ sym k)

no_family_lem : Whole no_family
unfolding read_number read_parameter no_family
no_family_lem = record { id = 0x0d; v = drop 2 no_family; is = refl }

left_over_lem : Whole left_over
unfolding read_number read_parameter left_over
left_over_lem = record { id = 0x01; v = drop 2 left_over; is = refl }

two_faults : Rearranged (no_family ++ left_over) (left_over ++ no_family)
unfolding no_family left_over
two_faults =
    record {
      composed = record { ws = no_family ∷ left_over ∷ []; is = refl; each = (no_family_lem, (left_over_lem, tt)) };
      ws' = left_over ∷ no_family ∷ [];
      is' = refl;
      moved = ∣ Permᴰ.swap refl refl ∣₁;
    }

pub rearrangement : Rearrangement
unfolding all read_number ids other_kinds kinds kind_at place_of fits illegal no_values upd read_parameter receive step parse read no_family left_over
rearrangement =
    record {
      same_record = rearranged;
      tidies_alike = tidied_alike;
      same_length = same_length;
      still_refused = refused_too;
      two_faults = two_faults;
      first_fault = λ s. (refl, refl);
    }
