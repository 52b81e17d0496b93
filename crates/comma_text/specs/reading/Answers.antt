-- What the readers of a text answer, as numbers: a refusal's number with the record at fault, which come alone, or 0 with what was read.
use Rattle.std.specs.Prelude.{ℕ, Result, Ok, Err}
use Rattle.specification.specs.declared.refusals.Fault.{Fault}
use Rattle.specification.specs.Answers.{number_of}
use Rattle.comma_text.specs.declared.reading.Read as R

-- The number of a refusal, or 0, with the record at fault.
pub record Refusal : Type 0 where
  pub refusal : ℕ
  pub at : ℕ

unfoldable pub fault_of : {A : Type 0} → Result A Fault → Refusal
fault_of (Ok a) = record { refusal = 0; at = 0 }
fault_of (Err f) = record { refusal = number_of f.refusal; at = f.at }

-- The refusal with the record at fault and no points, or 0 with the number of distinct points.
pub record Gathered : Type 0 where
  pub refusal : ℕ
  pub at : ℕ
  pub n : ℕ

unfoldable pub gathered_of : Result ℕ Fault → Gathered
gathered_of (Ok n) = record { refusal = 0; at = 0; n = n }
gathered_of (Err f) = record { refusal = number_of f.refusal; at = f.at; n = 0 }

-- The refusal with the record at fault, the header being 1; or 0 with the settings and the number of points.
pub record Read : Type 0 where
  pub refusal : ℕ
  pub at : ℕ
  pub modulus : ℕ
  pub variables : ℕ
  pub order : ℕ
  pub n : ℕ

unfoldable pub read_of : Result R.Read Fault → Read
read_of (Ok a) = record { refusal = 0; at = 0; modulus = a.modulus; variables = a.variables; order = a.order; n = a.n }
read_of (Err f) = record { refusal = number_of f.refusal; at = f.at; modulus = 0; variables = 0; order = 0; n = 0 }
