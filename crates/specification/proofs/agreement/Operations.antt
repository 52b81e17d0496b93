-- What the run of a list stands on, of each operation. A further operation is one more clause of `lawful`.
use Rattle.specification.specs.Reference.{Operation, adding, withdrawing}
use Rattle.specification.proofs.agreement.OperationLaws.{adding_lawful, withdrawing_lawful}
pub use Rattle.specification.proofs.agreement.OperationLaws.{Passed, Lawful}

pub lawful : (o : Operation) → Lawful o
lawful (adding levels) = adding_lawful levels
lawful (withdrawing levels) = withdrawing_lawful levels
