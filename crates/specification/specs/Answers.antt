-- What the calls on tables answer, as numbers: a refusal's number, which comes alone, or 0 with what the call found.
use Rattle.std.specs.Prelude.{ℕ, Result, Ok, Err}
use Rattle.specification.specs.declared.refusals.Refusal.{Refusal}
use Rattle.specification.specs.declared.refusals.Refusal.TheVariants.{LongText, Form, Modulus, Variables, Order, ShortBuffer, Length, TooMany, OutOfRange}
use Rattle.specification.specs.declared.refusals.Refusal.TheVariants.{NoBasis, NotThere, TooOften, OtherValue, Weights, Variable, OtherSuccessor}
use Rattle.specification.specs.declared.refusals.Refusal.TheVariants.{NoCourse, Json}
use Rattle.specification.specs.declared.answers.Size.{Size}
use Rattle.specification.specs.declared.answers.Drawing.{Drawing}

-- docs/SCOPE.md, 'Refused, in this order of checking'
unfoldable pub number_of : Refusal → ℕ
number_of LongText = 1
number_of Form = 2
number_of Modulus = 3
number_of Variables = 4
number_of Order = 5
number_of ShortBuffer = 6
number_of Length = 7
number_of TooMany = 8
number_of OutOfRange = 9
number_of NoBasis = 10
number_of NotThere = 12
number_of TooOften = 13
number_of OtherValue = 14
number_of Weights = 15
number_of Variable = 16
number_of OtherSuccessor = 17
number_of NoCourse = 18
number_of Json = 19

-- The number of a call: 0 where nothing refuses it.
unfoldable pub refusal_of : {A : Type 0} → Result A Refusal → ℕ
refusal_of (Ok a) = 0
refusal_of (Err e) = number_of e

-- The refusal, or 0 with the number of points and the number of basis elements. A refusal comes alone: the counts are then 0.
pub record Answer : Type 0 where
  pub refusal : ℕ
  pub n : ℕ
  pub r : ℕ

unfoldable pub answer_of : Result Size Refusal → Answer
answer_of (Ok a) = record { refusal = 0; n = a.n; r = a.r }
answer_of (Err e) = record { refusal = number_of e; n = 0; r = 0 }

-- What drawing up answers: as `Answer`, and how many cancellations it took.
pub record Drawn : Type 0 where
  pub refusal : ℕ
  pub n : ℕ
  pub r : ℕ
  pub cancellations : ℕ

unfoldable pub drawn_of : Result Drawing Refusal → Drawn
drawn_of (Ok a) = record { refusal = 0; n = a.n; r = a.r; cancellations = a.cancellations }
drawn_of (Err e) = record { refusal = number_of e; n = 0; r = 0; cancellations = 0 }

-- The refusal, or 0 with how many variables the wiring list names.
pub record Wired : Type 0 where
  pub refusal : ℕ
  pub count : ℕ

unfoldable pub wired_of : Result ℕ Refusal → Wired
wired_of (Ok k) = record { refusal = 0; count = k }
wired_of (Err e) = record { refusal = number_of e; count = 0 }
