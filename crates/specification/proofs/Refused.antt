-- A refusal has a number from 1 to 19: 0 is the number of a call that nothing refuses.
use mathlib.Core.Path.{◌≡◌}
use Prim.Native.Nat.{◌≤◌}
use native.Mathlib.Omega.{arith}
use Rattle.specification.specs.declared.refusals.Refusal.{Refusal}
use Rattle.specification.specs.declared.refusals.Refusal.TheVariants.{LongText, Form, Modulus, Variables, Order, ShortBuffer, Length, TooMany, OutOfRange}
use Rattle.specification.specs.declared.refusals.Refusal.TheVariants.{NoBasis, NotThere, TooOften, OtherValue, Weights, Variable, OtherSuccessor}
use Rattle.specification.specs.declared.refusals.Refusal.TheVariants.{NoCourse, Json}
use Rattle.specification.specs.Answers.{number_of}

pub number_above_0 : (e : Refusal) → number_of e ≡ 0 → ⊥
unfolding number_of
number_above_0 LongText z = omega arith
number_above_0 Form z = omega arith
number_above_0 Modulus z = omega arith
number_above_0 Variables z = omega arith
number_above_0 Order z = omega arith
number_above_0 ShortBuffer z = omega arith
number_above_0 Length z = omega arith
number_above_0 TooMany z = omega arith
number_above_0 OutOfRange z = omega arith
number_above_0 NoBasis z = omega arith
number_above_0 NotThere z = omega arith
number_above_0 TooOften z = omega arith
number_above_0 OtherValue z = omega arith
number_above_0 Weights z = omega arith
number_above_0 Variable z = omega arith
number_above_0 OtherSuccessor z = omega arith
number_above_0 NoCourse z = omega arith
number_above_0 Json z = omega arith

pub number_small : (e : Refusal) → number_of e ≤ 19
unfolding number_of
number_small LongText = omega arith
number_small Form = omega arith
number_small Modulus = omega arith
number_small Variables = omega arith
number_small Order = omega arith
number_small ShortBuffer = omega arith
number_small Length = omega arith
number_small TooMany = omega arith
number_small OutOfRange = omega arith
number_small NoBasis = omega arith
number_small NotThere = omega arith
number_small TooOften = omega arith
number_small OtherValue = omega arith
number_small Weights = omega arith
number_small Variable = omega arith
number_small OtherSuccessor = omega arith
number_small NoCourse = omega arith
number_small Json = omega arith
