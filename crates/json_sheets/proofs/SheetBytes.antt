-- The numbers of a sheet are bytes, all but its counts below 100, and its document is well formed.
use mathlib.Core.Path.{◌≡◌, refl, sym, ◌∙◌, ap, subst}
use mathlib.Core.Bool.{Bool, true}
use mathlib.Core.Logic.{inl, inr}
use mathlib.Core.List.{List, [], ◌∷◌, map}
use Prim.Native.Nat.{ℕ, suc, ◌-◌, ◌%◌, ◌≤◌, ◌<◌}
use native.Mathlib.Nat.{mod-lt}
use native.Mathlib.Omega.{arith}
use lib.ListN.{get_or, length-map}
use lib.Dec.{leb}
use borrow.Author.Tests.{le-leb}
use Rattle.residue.specs.Lists.{Among, every}
use Rattle.residue.specs.Modulus.{is_modulus}
use Rattle.residue.specs.Layout.{fill}
use Rattle.residue.proofs.level.Moduli.{modulus_range}
use Rattle.specification.specs.declared.settings.Settings.{Settings}
use Rattle.specification.specs.BasisOf.{row_of}
use Rattle.specification.specs.Counted.{is_count}
use Rattle.specification.specs.Instance.{Monomial, point_of}
use Rattle.specification.specs.Tables.{Tables, order_under, space_under, points_under, standard_under, leads_under, rows_under}
use Rattle.specification.proofs.Instance.{standard_exponent, lead_exponent}
use Rattle.specification.proofs.ideal.Lists.{among_map}
use Rattle.specification.proofs.ideal.Basis.{interpolant_fits}
use Rattle.specification.proofs.agreement.Drawings.{laws_under}
use Rattle.json_text.specs.Documents.{is_byte, are_bytes}
use Rattle.json_text.proofs.Digits.{both}
use Rattle.json_sheets.proofs.SheetDocuments.{Checked, S, parts, given, count, distinct}

-- a test that each member passes
pub every_of : {A : Type 0} (f : A → Bool) (l : List A) → ((a : A) → Among a l → f a ≡ true) → every f l ≡ true
every_of f [] h = refl
every_of f (a ∷ l) h = rw (h a (inl refl)) (every_of f l (λ b w. h b (inr w)))

pub every_at : {A : Type 0} (f : A → Bool) (l : List A) → every f l ≡ true → (a : A) → Among a l → f a ≡ true
every_at f (b ∷ l) e a (inl q) = ap f q ∙ (both {a = f b} {b = every f l} e).0
every_at f (b ∷ l) e a (inr w) = every_at f l (both {a = f b} {b = every f l} e).1 a w
every_at {A = A} f [] e a x'' = elim x'' [ ]

-- a member's place
place_of : (c : ℕ) (l : List ℕ) → Among c l → (i : ℕ) × (c ≡ get_or l i 0)
place_of c (x ∷ l) (inl e) = (0, e)
place_of c (x ∷ l) (inr w) = let p = place_of c l w in (suc p.0, p.1)
place_of c [] x' = elim x' [ ]

-- each number of each list is below a bound
abbrev pub EachBelow : ℕ → List (List ℕ) → Type 0
EachBelow k L = (a : List ℕ) → Among a L → (c : ℕ) → Among c a → c < k

pub byte : (c : ℕ) → c < 256 → is_byte c ≡ true
unfolding is_byte
byte c h = le-leb c 255 (omega arith)

pub lists_bytes : (k : ℕ) (L : List (List ℕ)) → k ≤ 256 → EachBelow k L → every are_bytes L ≡ true
unfolding are_bytes
lists_bytes k L h b = every_of are_bytes L (λ a w. every_of is_byte a (λ c q. byte c (omega (arith, b a w c q))))

module _ (s : Settings) (n r : ℕ) (t : Tables) (h : Checked s n r t) where
  abbrev P : List (List ℕ)
  P = S s n r t h

  prime : is_modulus (suc (s.modulus - 1)) ≡ true
  prime =
      let e : s.modulus ≡ suc (s.modulus - 1) = omega (arith, modulus_range s.modulus h.settings.modulus) in
      subst (λ (p : ℕ). is_modulus p ≡ true) e h.settings.modulus

  pub points_small : EachBelow 100 P
  points_small a w c q =
      let e = ((given s n r t h).points a w).same in
      let m = among_map (λ (x : ℕ). x % suc (s.modulus - 1)) a c (subst (λ (z : List ℕ). Among c z) (sym e) q) in
      omega (arith, m.2, mod-lt m.0 {m = suc (s.modulus - 1)} (omega arith), modulus_range s.modulus h.settings.modulus)

  pub standard_small : EachBelow 100 (map (λ a. a.0) (standard_under s P))
  standard_small a w c q =
      let m = among_map (λ (b : Monomial s.variables). b.0) (standard_under s P) a w in
      let i = place_of c a q in
      let e : get_or a i.0 0 ≡ get_or m.0.0 i.0 0 = ap (λ (z : List ℕ). get_or z i.0 0) m.2 in
      omega (
        arith,
        i.1,
        e,
        standard_exponent (s.modulus - 1) s.variables (order_under s) prime (points_under s P) (distinct s n r t h) m.0 m.1 i.0,
        length-map P (point_of (s.modulus - 1) s.variables),
        count s n r t h,
        h.few,
      )

  pub leads_small : EachBelow 100 (map (λ a. a.0) (leads_under s P))
  leads_small a w c q =
      let m = among_map (λ (b : Monomial s.variables). b.0) (leads_under s P) a w in
      let i = place_of c a q in
      let e : get_or a i.0 0 ≡ get_or m.0.0 i.0 0 = ap (λ (z : List ℕ). get_or z i.0 0) m.2 in
      omega (
        arith,
        i.1,
        e,
        lead_exponent (s.modulus - 1) s.variables (order_under s) prime (points_under s P) (distinct s n r t h) m.0 m.1 i.0,
        length-map P (point_of (s.modulus - 1) s.variables),
        count s n r t h,
        h.few,
      )

  pub rows_small : EachBelow 100 (rows_under s P)
  rows_small a w c q =
      let m = among_map (row_of (space_under s) (points_under s P)) (leads_under s P) a w in
      omega (
        arith,
        (interpolant_fits (space_under s) (laws_under s h.settings) (points_under s P) (distinct s n r t h) _).residues c (subst (λ (z : List ℕ). Among c z) m.2 q),
        modulus_range s.modulus h.settings.modulus,
      )

  pub counts_small : are_bytes (fill n t.counts) ≡ true
  unfolding are_bytes is_byte is_count
  counts_small = every_of is_byte (fill n t.counts) (λ c w. (both {a = leb 1 c} {b = leb c 255} (every_at is_count (fill n t.counts) (parts s n r t h).range c w)).1)
