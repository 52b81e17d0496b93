-- One claim over any list of operations (docs/SCOPE.md, 'The two desks').
pub mod Points
pub mod Refusals
pub mod OperationLaws
pub mod Operations
pub mod Run
pub mod Values
pub mod Drawings
pub mod Handed
pub mod Arrangements
pub mod Claim
