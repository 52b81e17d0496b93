-- The same points in any order, with values that are equal at each: the same wiring list. Neither an order of monomials nor the basis is asked for.
use mathlib.Core.Path.{◌≡◌, sym, ◌∙◌, ap, subst}
use mathlib.Core.List.{List, zip}
use Prim.Native.Nat.{ℕ}
use lib.IntN.{ℤ}
use lib.ListN.{length}
use Rattle.residue.specs.Lists.{Among}
use Rattle.residue.specs.Level.{residue_of}
use Rattle.specification.specs.declared.settings.Settings.{Settings}
use Rattle.specification.specs.Levels.{residue_or0, residues}
use Rattle.specification.specs.Needed.{wiring_of}
use Rattle.specification.specs.Agreement.{SameValues}
use Rattle.specification.proofs.agreement.Values.{point_of_lem, value_there, level_there, residue_there, turned}
use Rattle.specification.proofs.Wiring.{names_same}
use Rattle.specification.proofs.needed.Decided.{same_answer}
use Rattle.specification.proofs.needed.Pairs.{Two, two_told}

module _ (s : Settings) where
  abbrev valued : List (List ℕ) → List ℤ → List (List ℕ × ℕ)
  valued K v = zip K (residues s.modulus v)

  -- a point with its value is found in the other order too
  carried : (K L : List (List ℕ)) (v w : List ℤ) → length w ≡ length L → ((P : List ℕ) → Among P K → Among P L) → SameValues s K L v w
      → (a : List ℕ × ℕ) → Among a (valued K v) → Among a (valued L w)
  carried K L v w l to e a q =
      let y = level_there s.modulus K v a.0 a.1 q in
      let z = value_there L w l a.0 (to a.0 (point_of_lem K v a.0 y.0 y.1)) in
      let same : residue_or0 (residue_of s.modulus z.0) ≡ a.1 = sym (y.2 ∙ ap residue_or0 (e.equal a.0 y.0 z.0 y.1 z.1)) in
      subst (λ (x : ℕ). Among (a.0, x) (valued L w)) same (residue_there s.modulus L w a.0 z.0 z.1)

  pub wiring_arranged : (K L : List (List ℕ)) (v w : List ℤ) → length v ≡ length K → length w ≡ length L
      → ((P : List ℕ) → Among P K → Among P L) → ((P : List ℕ) → Among P L → Among P K) → SameValues s K L v w
      → (m : ℕ) → wiring_of m K (residues s.modulus v) ≡ wiring_of m L (residues s.modulus w)
  wiring_arranged K L v w k l to from e =
      names_same K L (residues s.modulus v) (residues s.modulus w) (λ i. same_answer (both i (valued K v) (valued L w) (carried K L v w l to e)) (both i (valued L w) (valued K v) (carried L K w v k from (turned e))) (two_told i (valued K v)) (two_told i (valued L w)))
    where
      both : (i : ℕ) (A B : List (List ℕ × ℕ)) → ((a : List ℕ × ℕ) → Among a A → Among a B) → Two i A → Two i B
      both i A B f t = (t.0, t.1, f t.0 t.2, f t.1 t.3, t.4)
