-- Laws of several operations, proved. Assumes nothing.
use Rattle.canonical.specs.OperationLaws.{OperationLaws}
use Rattle.canonical.proofs.AnyOrder.{every_order}
use Rattle.canonical.proofs.Built.{built_written, built_accepted}
use Rattle.canonical.proofs.Measured.{tidied_length, least_length}

pub operation_laws : OperationLaws
operation_laws =
    record {
      built_written = λ s cid draw payload order out r h. built_written s cid draw payload order r h out;
      built_accepted = λ s cid draw payload order out r n h k. built_accepted s cid draw payload order r h out n k;
      tidied_length = λ s e out o r n hb k t. tidied_length s e r hb k out o n t;
      least_length = λ s e r n hb k h. least_length s e r hb k n h;
      every_order = λ t f os h b d n. every_order t f h b os d n;
    }
