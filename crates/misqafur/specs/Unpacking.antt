-- How C takes an answer apart: the helpers of include/misqafur.h, a definition each. `answer & 255` is the remainder by 256, `answer >> 8` the quotient by 256.
use Rattle.std.specs.Prelude.{cond, List, [], ◌∷◌, ℕ, ◌/◌, ◌%◌, eqb}
use Rattle.specification.specs.declared.settings.Settings.{Settings}
use Rattle.specification.specs.Adding.{draw_outcome, draw_packed_outcome}
use Rattle.specification.specs.Solving.{check_refusal, interpolate_outcome, remainder_outcome, wiring_outcome}
use Rattle.specification.specs.LeaveOut.{leave_out_outcome}
use Rattle.specification.specs.Reference.{outcome_of, Event, own, interposed, Held, outcome_at, held_after}
use Rattle.specification.specs.Calls.{operating, checking, interpolating, dividing, wiring, Call, drawing, drawing_packed, handed, leaving_out}
use Rattle.misqafur.specs.Packing.{Left, packed_outcome, packed_drawing, packed_list}

-- misqafur_refusal, misqafur_read_refusal: answer & 255
unfoldable pub refusal_from : ℕ → ℕ
refusal_from a = a % 256

-- misqafur_points, misqafur_read_points: (answer >> 8) & 255
unfoldable pub points_from : ℕ → ℕ
points_from a = a / 256 % 256

-- misqafur_elements: (answer >> 16) & 65535
unfoldable pub elements_from : ℕ → ℕ
elements_from a = a / 65536 % 65536

-- misqafur_cancellations: answer >> 32, of 64 bits
unfoldable pub cancellations_from : ℕ → ℕ
cancellations_from a = a / 4294967296

-- misqafur_wiring_count, misqafur_json_length: answer >> 8
unfoldable pub count_from : ℕ → ℕ
count_from a = a / 256

-- misqafur_read_record: answer >> 8
unfoldable pub fault_from : ℕ → ℕ
fault_from a = a / 256

-- misqafur_read_modulus: (answer >> 16) & 255
unfoldable pub modulus_from : ℕ → ℕ
modulus_from a = a / 65536 % 256

-- misqafur_read_variables: (answer >> 24) & 255
unfoldable pub variables_from : ℕ → ℕ
variables_from a = a / 16777216 % 256

-- misqafur_read_order: (answer >> 32) & 15
unfoldable pub order_from : ℕ → ℕ
order_from a = a / 4294967296 % 16

-- misqafur_course_elements: (answer >> 36) & 1023
unfoldable pub course_elements_from : ℕ → ℕ
course_elements_from a = a / 68719476736 % 1024

-- misqafur_course_step: (answer >> 46) & 511
unfoldable pub step_from : ℕ → ℕ
step_from a = a / 70368744177664 % 512

-- misqafur_course_back: answer >> 55
unfoldable pub back_from : ℕ → ℕ
back_from a = a / 36028797018963968

-- The number that the export of a call returns, as the exports' contracts have it; and the parts of its answer beside the refusal, as C takes them out.
unfoldable pub returned : Call → ℕ
returned (drawing s t levels) = (packed_drawing (draw_outcome s t levels)).number
returned (drawing_packed s t levels) = (packed_outcome (draw_packed_outcome s t levels)).number
returned (handed (operating o) s n r t) = (packed_outcome (outcome_of o s n r t)).number
returned (handed checking s n r t) = check_refusal s n r t
returned (handed (interpolating values buffer) s n r t) = (interpolate_outcome s n r t values buffer).refusal
returned (handed (dividing coefficients exponents buffer) s n r t) = (remainder_outcome s n r t coefficients exponents buffer).refusal
returned (handed (wiring values buffer) s n r t) = (packed_list (wiring_outcome s n r t values buffer)).number
returned (leaving_out s n r t v u) = (packed_outcome (leave_out_outcome s n r t v u)).number

unfoldable pub parts_from : Call → ℕ → List ℕ
parts_from (drawing s t levels) a = points_from a ∷ elements_from a ∷ cancellations_from a ∷ []
parts_from (drawing_packed s t levels) a = points_from a ∷ elements_from a ∷ []
parts_from (handed (operating o) s n r t) a = points_from a ∷ elements_from a ∷ []
parts_from (handed checking s n r t) a = []
parts_from (handed (interpolating values buffer) s n r t) a = []
parts_from (handed (dividing coefficients exponents buffer) s n r t) a = []
parts_from (handed (wiring values buffer) s n r t) a = count_from a ∷ []
parts_from (leaving_out s n r t v u) a = points_from a ∷ elements_from a ∷ []

-- misqafur_sheet_keep: what a host holds after a call of adding or withdrawing
unfoldable pub sheet_kept : Held → Left → Held
sheet_kept h l =
    cond (eqb (refusal_from l.number) 0) (record { n = points_from l.number; r = elements_from l.number; tables = l.tables })
    (record { n = h.n; r = h.r; tables = l.tables })

-- A list of calls (specs/Reference) through the exports: the refusals that C reads, and what it holds at the end. Of an interposed call it keeps nothing.
unfoldable pub kept_after : Settings → Held → Event → Held
kept_after s h (own o) = sheet_kept h (packed_outcome (outcome_at s h (own o)))
kept_after s h (interposed u n r a b c d e o) = held_after s h (interposed u n r a b c d e o)

unfoldable pub refusals_read : Settings → Held → List Event → List ℕ
refusals_read s h [] = []
refusals_read s h (e ∷ es) = refusal_from (packed_outcome (outcome_at s h e)).number ∷ refusals_read s (kept_after s h e) es

unfoldable pub kept_at_end : Settings → Held → List Event → Held
kept_at_end s h [] = h
kept_at_end s h (e ∷ es) = kept_at_end s (kept_after s h e) es
