-- Records that were read: their states are points, and residues in their table.
use mathlib.Core.Path.{◌≡◌, sym, ap, subst, ◌∙◌}
use mathlib.Core.Bool.{Bool, false}
use mathlib.Core.Logic.{inl, inr}
use mathlib.Core.List.{List, [], ◌∷◌, map}
use mathlib.Core.Option.{get_or}
use Prim.Native.Nat.{ℕ, suc, ◌<◌}
use native.Mathlib.Omega.{arith}
use lib.IntN.{ℤ}
use lib.ListN.{length, take, length-map}
use lib.Seq.{length-take-le}
use lib.Dec.{T}
use borrow.Author.Tests.{not-false}
use Rattle.residue.specs.Lists.{Among}
use Rattle.residue.specs.Vector.{Below}
use Rattle.residue.proofs.Tests.{of_true}
use Rattle.residue.proofs.Layouts.{below_fill}
use Rattle.residue.proofs.level.Moduli.{modulus_range}
use Rattle.specification.specs.declared.settings.Settings.{Settings}
use Rattle.specification.specs.Settings.{Accepted}
use Rattle.specification.specs.Levels.{in_range}
use Rattle.specification.specs.Points.{IsPoint}
use Rattle.specification.proofs.ideal.Lists.{among_map}
use Rattle.specification.proofs.agreement.Points.{levels_point}
use Rattle.construction.proofs.drawing.Grounds.{places_below}
use Rattle.points.proofs.levels.LevelLists.{residues_below}
use Rattle.notation.specs.Fields.{records_of}
use Rattle.comma_text.specs.reading.Text.{first_fault, entry_point, is_outside}
use Rattle.comma_text.specs.reading.Records.{entries_at, counted_entries}
use Rattle.comma_text.specs.reading.Points.{levels_at}
use Rattle.std.specs.Prelude.{Ok}
use Rattle.comma_text.proofs.reading.FirstPlaces.{fault_step}
use Rattle.comma_text.proofs.reading.EntryLengths.{AllLong, entries_long}
use Rattle.comma_text.proofs.reading.entries.EntriesRead.{all_entries}
use Rattle.courses.specs.TimeCourse.{Timed}
use Rattle.courses.specs.Records.{records_size, RecordedAs, HeldIn}
use Rattle.courses.proofs.moves.HeldRecords.{recorded_held}
use Rattle.course_text.specs.Form.{timed_of, all_timed, state_outside, first_state_outside}

-- none of a list has a fault
none_faulty : {A : Type 0} (f : A → Bool) (l : List A) → first_fault f l ≡ 0 → (a : A) → Among a l → f a ≡ false
unfolding first_fault
none_faulty f (b ∷ l) h a (inl e) = subst (λ (x : _). f x ≡ false) (sym e) (fault_step (f b) (first_fault f l) h).0
none_faulty f (b ∷ l) h a (inr q) = none_faulty f l (fault_step (f b) (first_fault f l) h).1 a q
none_faulty {A = A} f [] h a x'' = elim x'' [ ]

-- the entries of a text of right form
pub entries_all : (m n : ℕ) (l : List ℕ) → counted_entries 0 (entries_at m l) ≡ Ok n → AllLong (suc m) (levels_at m l) × (length (levels_at m l) ≡ n)
unfolding entries_at levels_at
entries_all m n l c = let e = all_entries 0 n (entries_at m l) c in
    ((λ zs q. entries_long m (records_of l) (map (λ e. get_or e []) (entries_at m l)) e.0 zs q), omega (arith, length-map (entries_at m l) (λ e. get_or e []), e.1))

module _ (s : Settings) (ok : Accepted s) (E : List (List ℤ)) (long : AllLong (suc s.variables) E)
    (inside : first_state_outside s.modulus s.variables E ≡ 0) where
  positive : 0 < s.modulus
  positive = omega (arith, (modulus_range s.modulus ok.modulus).0)

  -- every level of a state is in range
  in_range_lem : (zs : List ℤ) → Among zs E → T (in_range s.modulus (take s.variables zs))
  unfolding first_state_outside state_outside is_outside
  in_range_lem zs mem =
      of_true {b = in_range s.modulus (take s.variables zs)}
      (not-false (in_range s.modulus (take s.variables zs)) (none_faulty (state_outside s.modulus s.variables) E inside zs mem))

  -- every state is a point
  pub each_point : (a : Timed) → Among a (all_timed s.modulus s.variables E) → IsPoint s a.0
  unfolding all_timed timed_of entry_point
  each_point a mem = let w = among_map (timed_of s.modulus s.variables) E a mem in
      subst (λ (b : Timed). IsPoint s b.0) (sym w.2)
      (levels_point s (take s.variables w.0) positive (length-take-le s.variables w.0 (omega (arith, long w.0 w.1))) (in_range_lem w.0 w.1))

  state_low : (P : List ℕ) → Among P (map (λ a. a.0) (all_timed s.modulus s.variables E)) → Below s.modulus P
  unfolding all_timed timed_of entry_point
  state_low P mem =
      let w = among_map (λ a. a.0) (all_timed s.modulus s.variables E) P mem in
      let v = among_map (timed_of s.modulus s.variables) E w.0 w.1 in
      subst (Below s.modulus) (sym (w.2 ∙ ap (λ (a : Timed). a.0) v.2))
      (residues_below s.modulus (take s.variables v.0) positive (in_range_lem v.0 v.1))

  module _ {records numbers : List ℕ} (h : RecordedAs (all_timed s.modulus s.variables E) records numbers) where
    pub held : HeldIn s.variables (all_timed s.modulus s.variables E) records numbers
    held = recorded_held ok.few (λ a q. (each_point a q).long) h

    pub records_low : Below s.modulus records
    records_low =
        subst (Below s.modulus) (sym h.states)
        (below_fill s.modulus records_size _ positive (places_below s.modulus 8 (map (λ a. a.0) (all_timed s.modulus s.variables E)) positive state_low))
