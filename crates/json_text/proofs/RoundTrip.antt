-- Writer and reader are each other's inverse (document 02, M-112): 'a reader takes back what the writer can write and nothing else'.
use mathlib.Core.Path.{◌≡◌, refl, sym, ◌∙◌, ap, subst}
use mathlib.Core.Bool.{Bool, true, false, cond}
use mathlib.Core.List.{List, [], ◌∷◌}
use mathlib.Core.Option.{some, none}
use Prim.Native.Nat.{ℕ}
use native.Mathlib.Omega.{arith}
use Rattle.notation.specs.Fields.{Part, part, faulty}
use Rattle.json_text.specs.Documents.{Document, written, bytes_only, fitting, well_formed}
use Rattle.json_text.specs.Reading.{read_document, whole, read}
use Rattle.json_text.proofs.Digits.{both}
use Rattle.json_text.proofs.DocumentTexts.{bytes_parts, bytes_all, written_laid, document_taken, document_only}

whole_of : (p : Part Document) (d : Document) → whole p ≡ some d → (p ≡ part d []) × (fitting d ≡ true)
unfolding whole
whole_of faulty d e = let z : ◌≡◌ {A = ℕ} 0 1 = cc in absurd (omega arith)
whole_of (part c (b ∷ rest)) d e = let z : ◌≡◌ {A = ℕ} 0 1 = cc in absurd (omega arith)
whole_of (part c []) d e = go (fitting c) refl e
  where
    go : (x : Bool) → fitting c ≡ x → cond x (some c) none ≡ some d → (part c [] ≡ part d []) × (fitting d ≡ true)
    go true f g = let h : c ≡ d = cc in (ap (λ (z : Document). part z []) h, subst (λ (z : Document). fitting z ≡ true) h f)
    go false f g = let z : ◌≡◌ {A = ℕ} 0 1 = cc in absurd (omega arith)

-- A well-formed document is read back from its text.
pub read_written : (d : Document) → well_formed d ≡ true → read (written d) ≡ some d
unfolding read whole well_formed
read_written d w =
    let p = both {a = bytes_only d} {b = fitting d} w in
    rw (written_laid d, document_taken d [] (bytes_parts d p.0), p.1)

-- A text that is read is that of a well-formed document, the one read.
pub written_read : (t : List ℕ) (d : Document) → read t ≡ some d → (t ≡ written d) × (well_formed d ≡ true)
unfolding read well_formed
written_read t d e =
    let p = whole_of (read_document t) d e in
    let q = document_only t d [] p.0 in
    (q.0 ∙ sym (written_laid d), rw (bytes_all d q.1, p.1))

-- One text, one document.
pub written_injective : (c d : Document) → well_formed c ≡ true → well_formed d ≡ true → written c ≡ written d → c ≡ d
written_injective c d f g e = let h : some c ≡ some d = sym (read_written c f) ∙ ap read e ∙ read_written d g in cc
