-- The first entry with a fault, looked for one by one; out of range is such a fault.
use mathlib.Core.Path.{◌≡◌, sym, ap, ◌∙◌}
use mathlib.Core.Bool.{Bool, true, false, not}
use mathlib.Core.List.{List, [], ◌∷◌, ◌++◌}
use Prim.Native.Nat.{ℕ, suc, ◌+◌, ◌<◌, ◌≤◌}
use native.Mathlib.Numerals.{add-one}
use native.Mathlib.Omega.{arith}
use lib.IntN.{ℤ}
use lib.ListN.{length, take, drop, take-append-drop}
use lib.Seq.{length-take-le}
use Rattle.specification.specs.Levels.{in_range}
use Rattle.comma_text.specs.reading.Text.{first_fault, is_outside}
use Rattle.comma_text.specs.reading.Records.{entry_part}
use Rattle.comma_text.specs.reading.Points.{FilledAs, earlier_place}
use Rattle.comma_text.specs.declared.reading.entries.Filled.{Filled}
use Rattle.comma_text.proofs.reading.FirstPlaces.{after_more, after_found, fault_after}
use Rattle.comma_text.proofs.reading.entries.EntriesRead.{ReadOn, next, here, levels, one_more, all_read}

module _ (f : List ℤ → Bool) {m n : ℕ} {t : List ℕ} (S : List (List ℤ)) {from i : ℕ} (g : ReadOn m n t S from i) where
  -- no entry before the jth has the fault
  abbrev pub None : ℕ → Type 0
  None j = first_fault f (take j S) ≡ 0

  module _ (h : i < n) (z : None i) (inside : Bool) (told : f (next S g h) ≡ not inside) where
    abbrev this : List ℤ
    this = next S g h

    after : first_fault f (take (i + 1) S) ≡ earlier_place 0 (not (f this)) (suc (length (take i S)))
    after =
        ap (first_fault f) (one_more S g h) ∙ fault_after f [] (take i S ++ (this ∷ [])) ∙ after_more (λ s a. f a) [] (take i S) this
        ∙ ap (λ (k : ℕ). earlier_place k (not (f this)) (suc (length (take i S)))) (sym (fault_after f [] (take i S)) ∙ z)

    pub inside_on : inside ≡ true → None (i + 1)
    unfolding earlier_place
    inside_on e = after ∙ ap (λ (b : Bool). earlier_place 0 (not b) (suc (length (take i S)))) (told ∙ ap not e)

    pub outside_here : inside ≡ false → i + 1 ≡ first_fault f S
    outside_here e =
        let l : length (take i S) ≡ i = length-take-le i S (omega (arith, g.count)) in
        add-one i ∙ ap suc (sym l) ∙ after_found (λ s a. f a) [] (take i S) this (drop (suc i) S) (sym (fault_after f [] (take i S)) ∙ z) (told ∙ ap not e)
        ∙ sym (fault_after f [] (take i S ++ (this ∷ drop (suc i) S))) ∙ ap (λ (l : List (List ℤ)). first_fault f (take i S ++ l)) (sym (here S g h))
        ∙ ap (first_fault f) (take-append-drop i S)

  pub all_inside : n ≤ i → None i → 0 ≡ first_fault f S
  all_inside h z = sym z ∙ ap (first_fault f) (all_read S g h)

-- what the filling of an entry says of its range
pub range_said : {p m n : ℕ} {t : List ℕ} (S : List (List ℤ)) {from i : ℕ} (g : ReadOn m n t S from i) (h : i < n) {r : Filled} {row : List ℕ}
    → FilledAs p m t (entry_part m (drop from t)) r row → is_outside p (next S g h) ≡ not r.inside
unfolding is_outside
range_said {p} S g h f = ap not (sym (f.inside ∙ ap (in_range p) (levels S g h)))
