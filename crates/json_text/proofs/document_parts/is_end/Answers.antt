-- `document_parts::is_end` meets its contract.
use mathlib.Core.Path.{sym, ◌∙◌}
use native.Mathlib.Omega.{arith}
use Rattle.json_text.proofs.Places.{here_inside}
use Rattle.json_text.proofs.document_parts.is_end.Goals as goal

pub overflow_add-result : goal.overflow_add-result
overflow_add-result c = let h = here_inside 125 _ _ (sym c.is_here.ensures ∙ c.if-is_here.true) in record { fits = omega arith }
