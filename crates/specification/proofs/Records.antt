-- The records of a text (request M-106; include/misqafur.h, of the text reader): its distinct points drawn up, each once, with the counts of all records
-- written over the fifth table, are what drawing up all records leaves and answers.
use mathlib.Core.Path.{◌≡◌, refl, sym, ◌∙◌, ap, ap₂}
use mathlib.Core.List.{List, [], ◌∷◌, ◌++◌, map, map-append, append-nil}
use mathlib.Core.Logic.{inl, inr}
use Prim.Native.Nat.{ℕ, suc, ◌-◌, ◌*◌, ◌/◌, ◌%◌, ◌<◌}
use native.Mathlib.Omega.{arith}
use native.Mathlib.Nat.{mod-lt, mul-mod_right, mul-div_right}
use Rattle.residue.specs.Sizes.{counts_size}
use Rattle.residue.specs.Lists.{Among}
use Rattle.residue.specs.Level.{residue_of}
use Rattle.std.proofs.Common.{Some}
use Rattle.residue.proofs.level.Moduli.{modulus_range}
use Rattle.specification.specs.Points.{IsPoint}
use Rattle.specification.specs.Instance.{reduced}
use lib.IntN.{ℤ, pos}
use lib.ListN.{length, length-map}
use lib.Dec.{T}
use borrow.Author.Tests.{lt-ltb, eq-eqb, le-ltb}
use Rattle.residue.specs.Layout.{groups, fill, in_places, over, length_fill}
use Rattle.residue.proofs.Tests.{true_of}
use Rattle.residue.proofs.Layouts.{fill_exact, length_places, places_back, over_over}
use Rattle.specification.specs.declared.settings.Settings.{Settings}
use Rattle.specification.specs.Refusal.{first_of}
use Rattle.specification.specs.Settings.{Accepted}
use Rattle.specification.specs.Levels.{is_residue, residue_or0, in_range, residues}
use Rattle.specification.specs.Counted.{Counted, points_of, counts_of, gathered, overfull}
use Rattle.specification.specs.Tables.{Tables, tables_of, written}
use Rattle.specification.specs.Adding.{points_offered, draw_cases, draw_refusal, holding, by_refusal, draw_outcome}
use Rattle.specification.specs.CallByCall.{as_levels, counting}
use Rattle.specification.proofs.agreement.Refusals.{not_refused, settings_pass}
use Rattle.specification.proofs.counted.Gathered.{once_gathered}
use Rattle.specification.proofs.counted.Once.{each_once, gathered_once, points_once, length_once, few_once}
use Rattle.specification.proofs.CallByCall.{Offered, drawn_points, drawn_number}

-- Points as levels: each residue is its own level.
module _ (s : Settings) (ok : Accepted s) where
  abbrev p : ℕ
  p = s.modulus

  own_level : (k : ℕ) → k < p → residue_of p (pos k) ≡ Some k
  unfolding residue_of
  own_level k h = rw (lt-ltb k p h) refl

  own_levels : (l : List ℕ) → reduced (p - 1) l ≡ l → T (in_range p (map pos l)) × (residues p (map pos l) ≡ l)
  unfolding in_range residues is_residue residue_or0
  own_levels [] e = (tt, refl)
  own_levels (x ∷ l) e =
      let here : x % suc (p - 1) ≡ x = cc in
      let behind : reduced (p - 1) l ≡ l = cc in
      let low : x % suc (p - 1) < suc (p - 1) = mod-lt x (omega arith) in
      let is = own_level x (omega (arith, modulus_range p ok.modulus, low, here)) in
      let w = own_levels l behind in rw is (w.0, ap (λ (t : List ℕ). x ∷ t) w.1)

  placed : (K : List (List ℕ)) → ((P : List ℕ) → Among P K → IsPoint s P) → reduced (p - 1) (in_places s.variables K) ≡ in_places s.variables K
  unfolding in_places
  placed [] h = refl
  placed (P ∷ K) h =
      let w = h P (inl refl) in
      let e = fill_exact s.variables P w.long in
      map-append (λ x. x % suc (p - 1)) (fill s.variables P) (in_places s.variables K)
      ∙ ap₂ ◌++◌ (ap (reduced (p - 1)) e ∙ w.same ∙ sym e) (placed K (λ Q q. h Q (inr q)))

  exact : (K : List (List ℕ)) → ((P : List ℕ) → Among P K → IsPoint s P) → map (fill s.variables) K ≡ K
  exact [] h = refl
  exact (P ∷ K) h = ap₂ (λ (Q : List ℕ) (l : List (List ℕ)). Q ∷ l) (fill_exact s.variables P (h P (inl refl)).long) (exact K (λ Q q. h Q (inr q)))

  module _ (K : List (List ℕ)) (h : (P : List ℕ) → Among P K → IsPoint s P) where
    many : length (as_levels s K) ≡ s.variables * length K
    unfolding as_levels
    many = length-map (in_places s.variables K) pos ∙ length_places s.variables K

    pub whole_of : length (as_levels s K) % s.variables ≡ 0
    whole_of = ap (λ (k : ℕ). k % s.variables) many ∙ mul-mod_right s.variables (length K)

    pub range_of : T (in_range p (as_levels s K))
    unfolding as_levels
    range_of = (own_levels (in_places s.variables K) (placed K h)).0

    -- read as points they are these
    pub offered_of : points_offered s (as_levels s K) ≡ K
    unfolding points_offered as_levels
    offered_of =
        ap₂ (λ (k : ℕ) (l : List ℕ). groups s.variables k l) (ap (λ (k : ℕ). k / s.variables) many ∙ count)
        (own_levels (in_places s.variables K) (placed K h)).1
        ∙ ap (groups s.variables (length K)) (sym (append-nil (in_places s.variables K))) ∙ places_back s.variables K [] ∙ exact K h
      where
        count : (s.variables * length K) / s.variables ≡ length K
        count = mul-div_right (length K) ok.some

-- All records, of any number, drawn up.
module _ (s : Settings) (t : Tables) (levels : List ℤ) (e : (draw_outcome s t levels).answer.refusal ≡ 0) where
  -- all records, by their distinct points with their counts
  abbrev G : Counted
  G = gathered (points_offered s levels)

  abbrev K : List (List ℕ)
  K = points_of G

  zero : draw_refusal s t levels ≡ 0
  zero = sym (drawn_number s t levels) ∙ e

  offer : Offered s t levels
  offer = drawn_points s t levels zero

  each : (P : List ℕ) → Among P K → IsPoint s P
  each = offer.entries.points.points

  abbrev once : List ℤ
  once = as_levels s K

  is_once : gathered (points_offered s once) ≡ each_once K
  is_once = ap gathered (offered_of s offer.ok K each) ∙ gathered_once K (once_gathered (points_offered s levels))

  taken : draw_refusal s t once ≡ 0
  unfolding draw_refusal draw_cases overfull first_of
  taken =
      settings_pass s (not_refused s offer.ok) _
      ∙ rw (
        offer.large,
        eq-eqb (length once % s.variables) 0 (whole_of s offer.ok K each),
        true_of (in_range s.modulus once) (range_of s offer.ok K each),
        is_once,
        le-ltb 64 (length (each_once K)) (omega (arith, length_once K, offer.entries.points.few)),
        few_once K,
      ) refl

  pub draw_counted : counting (counts_of G) (draw_outcome s t once) ≡ draw_outcome s t levels
  unfolding counting draw_outcome by_refusal holding written tables_of
  draw_counted = rw (taken, zero, is_once, points_once K, length_once K, length-map G (λ q. q.0), twice) refl
    where
      twice : over (fill counts_size (counts_of G)) (over (fill counts_size (counts_of (each_once K))) t.counts)
          ≡ over (fill counts_size (counts_of G)) t.counts
      twice = over_over (fill counts_size (counts_of G)) (fill counts_size (counts_of (each_once K))) t.counts
          (length_fill counts_size _ ∙ sym (length_fill counts_size _))
