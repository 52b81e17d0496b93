-- `text::misqafur_time_course` meets its contract.
use mathlib.Core.Path.{sym, ap, subst}
use Rattle.specification.specs.Tables.{five_tables}
use Rattle.forward.specs.Outcome.{CourseOutcome}
use Rattle.misqafur.specs.Packing.{CourseFits}
use Rattle.misqafur.proofs.Packed.{packs_course}
use Rattle.misqafur.proofs.CourseBack.{course_fits}
use Rattle.misqafur.proofs.text.misqafur_time_course.Goals as goal
use Rattle.misqafur.proofs.text.misqafur_time_course.Goals.{After-time_course, Start}

-- the call was made, from here
abbrev start : After-time_course → Start
start w = (goal.at.After-time_course w).Start

pub pack_course-requires : goal.pack_course-requires
pack_course-requires c = let w = c in
    let b = start (goal.at.pack_course-requires w).After-time_course in
    subst CourseFits (sym (ap (λ (o : CourseOutcome). o.answer) w.time_course.ensures))
    (course_fits b.args.text.now b.args.course
    (five_tables b.args.states.now b.args.standard.now b.args.leads.now b.args.coefficients.now b.args.counts.now) b.args.interpolants.now
    b.args.weights.now)

pub returns : goal.returns
returns c = packs_course c.time_course.ensures c.pack_course.ensures
