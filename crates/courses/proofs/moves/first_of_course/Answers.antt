-- `moves::first_of_course` meets its contract: what the search along the numbers finds is the place of the course.
use Rattle.std.proofs.Common.{◌≡◌, ◌≢◌, ℕ, ◌<◌, Option, Some, None, List, length, take, sym, ap, ◌∙◌, arith, rules, tests}
use Rattle.std.specs.List.{AllWithin, HoldsAt}
use Rattle.std.specs.Option.{MatchOption, IfSome, unwrap_or}
use Rattle.std.proofs.lemmas.List.{length-take-le}
use Rattle.std.proofs.lemmas.Iterator.{YieldsList-from_slice, IsFirst-from_position, index_from_first}
use Rattle.courses.specs.Moves.{place_of_course}
use Rattle.courses.proofs.moves.CoursePlaces.{course_hit, course_miss, course_none}
use Rattle.courses.proofs.moves.first_of_course.Goals as goal

within : (course : ℕ) (xs : List ℕ) (r : Option ℕ) (count : ℕ) → length xs ≡ count
    → MatchOption r (AllWithin (λ x. x ≢ course) xs 0 (length xs)) (λ i. (i < length xs) × HoldsAt (λ x. x ≡ course) xs i × AllWithin (λ x. x ≢ course) xs 0 i) → IfSome r (λ i. i < count)
within course xs None count e w = tt
within course xs (Some i) count e w = omega (arith, w.0)

pub returns : goal.returns
returns c =
    let xs = take c.args.count c.args.numbers.now in
    let course = c.args.course in
    let e = length-take-le c.args.count c.args.numbers.now (omega arith) in
    let w = IsFirst-from_position _ _ c.position.result (λ x. x ≡ course) (λ x. x ≢ course) c.position.ensures.ran (YieldsList-from_slice xs cc) (λ x q k. search (rules, tests)) (λ x q k. search (rules, tests)) in
    let p = index_from_first (place_of_course course) (λ x. x ≡ course) (λ x. x ≢ course) (course_none course) (λ x l. course_hit course x l) (λ x l. course_miss course x l) xs c.position.result w in
    record { within = within course xs c.position.result c.args.count e w; place = ap (unwrap_or c.position.result) (sym e) ∙ sym p }
