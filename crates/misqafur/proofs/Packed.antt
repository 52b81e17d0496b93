-- The number that a call returns, from its answer.
use mathlib.Core.Path.{◌≡◌, ap, ◌∙◌}
use mathlib.Core.List.{List}
use Prim.Native.Nat.{ℕ}
use Rattle.specification.specs.Answers.{Answer, Drawn, Wired}
use Rattle.specification.specs.Adding.{Outcome, ended, DrawOutcome, draw_ended}
use Rattle.specification.specs.Solving.{Filled, answering, Listed, listed}
use Rattle.comma_text.specs.reading.Answers.{Read}
use Rattle.specification.specs.Tables.{Tables}
use Rattle.comma_text.specs.reading.Text.{TextOutcome, text_ended}
use Rattle.forward.specs.Outcome.{Course}
use Rattle.forward.specs.Outcome.{CourseOutcome}
use Rattle.misqafur.specs.Packing.{packed_answer, packed_drawn, packed_wired, packed_read, left, packed_outcome, packed_drawing, left_list, packed_list, left_reading, packed_reading}
use Rattle.json_sheets.specs.Calls.{Written, Taken, WrittenText, wrote, Received, received}
use Rattle.misqafur.specs.Packing.{packed_course, left_course, packed_run, packed_written, packed_text, packed_taken, left_sheet, packed_sheet}

pub packs : {a : Answer} {t : Tables} {o : Outcome} {k : ℕ} → ended a t ≡ o → k ≡ packed_answer a → left k t ≡ packed_outcome o
unfolding packed_outcome
packs {t = t} h n = ap (λ (k : ℕ). left k t) n ∙ ap packed_outcome h

pub packs_drawn : {a : Drawn} {t : Tables} {o : DrawOutcome} {k : ℕ} → draw_ended a t ≡ o → k ≡ packed_drawn a → left k t ≡ packed_drawing o
unfolding packed_drawing
packs_drawn {t = t} h n = ap (λ (k : ℕ). left k t) n ∙ ap packed_drawing h

pub packs_answer : {k j : ℕ} {b : List ℕ} {o : Filled} → answering k b ≡ o → j ≡ k → answering j b ≡ o
packs_answer {b = b} h n = ap (λ (k : ℕ). answering k b) n ∙ h

pub packs_list : {w : Wired} {b : List ℕ} {o : Listed} {k : ℕ} → listed w b ≡ o → k ≡ packed_wired w → left_list k b ≡ packed_list o
unfolding packed_list
packs_list {b = b} h n = ap (λ (k : ℕ). left_list k b) n ∙ ap packed_list h

pub packs_read : {r : Read} {b c d e : List ℕ} {o : TextOutcome} {k : ℕ} → text_ended r b c d e ≡ o → k ≡ packed_read r → left_reading k b c d e ≡ packed_reading o
unfolding packed_reading
packs_read {b = b} {c = c} {d = d} {e = e} h n = ap (λ (k : ℕ). left_reading k b c d e) n ∙ ap packed_reading h

pub packs_course : {r : Course} {t : Tables} {b c : List ℕ} {o : CourseOutcome} {k : ℕ} → record { answer = r; tables = t; interpolants = b; weights = c } ≡ o
    → k ≡ packed_course r → left_course k t b c ≡ packed_run o
unfolding packed_run
packs_course {t = t} {b = b} {c = c} h n = ap (λ (k : ℕ). left_course k t b c) n ∙ ap packed_run h

pub packs_text : {w : Written} {b : List ℕ} {o : WrittenText} {k : ℕ} → wrote w b ≡ o → k ≡ packed_written w → left_list k b ≡ packed_text o
unfolding packed_text
packs_text {b = b} h n = ap (λ (k : ℕ). left_list k b) n ∙ ap packed_text h

pub packs_sheet : {a : Taken} {t : Tables} {b : List ℕ} {o : Received} {k : ℕ} → received a t b ≡ o → k ≡ packed_taken a → left_sheet k t b ≡ packed_sheet o
unfolding packed_sheet
packs_sheet {t = t} {b = b} h n = ap (λ (k : ℕ). left_sheet k t b) n ∙ ap packed_sheet h
