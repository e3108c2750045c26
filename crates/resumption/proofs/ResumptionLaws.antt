-- Laws of resumption, proved. Assumes nothing.
use Rattle.resumption.specs.ResumptionLaws.{ResumptionLaws}
use Rattle.resumption.proofs.Theorems.{resumes_itself, resumes_through}

pub resumption_laws : ResumptionLaws
resumption_laws = record { itself = resumes_itself; through = resumes_through }
