-- The first case that holds, test by test.
use mathlib.Core.Path.{◌≡◌, refl, sym, ap, ◌∙◌}
use mathlib.Core.Bool.{Bool, true, false, cond, ◌||◌}
use mathlib.Core.List.{List, [], ◌∷◌, ◌++◌, map}
use Prim.Native.Nat.{ℕ, suc, ◌<◌, ◌≤◌}
use native.Mathlib.Omega.{arith}
use lib.ListN.{length}
use lib.Dec.{ltb}
use borrow.Author.Tests.{ltb-false, lt-leb, le-leb, eq-eqb, ne_eqb}
use Rattle.residue.specs.Modulus.{is_modulus}
use Rattle.residue.specs.Layout.{over}
use Rattle.residue.proofs.Tests.{neither}
use Rattle.specification.specs.declared.settings.Settings.{Settings}
use Rattle.specification.specs.Settings.{right_weights}
use Rattle.specification.specs.Counted.{points_of, gathered}
use Rattle.specification.specs.Refusal.{first_of}
use Rattle.comma_text.specs.reading.Text.{TextCase, TextOutcome, valued_point, valued_points, short_buffers, header_cases, entry_case, not_refused, refusal_at}
use Rattle.comma_text.specs.reading.Text.{text_ended, text_accepted, text_refused, text_decided}
use Rattle.comma_text.specs.reading.Points.{levels_at, saying, answered, EntriesTabled}
use Rattle.comma_text.specs.reading.Answers.{Refusal, Gathered}

module _ (s : Settings) (short : Bool) where
  pub refuse_3 : is_modulus s.modulus ≡ false → refusal_at 3 1 ≡ first_of not_refused (header_cases s short)
  unfolding first_of header_cases
  refuse_3 e = simp e

  module _ (e : is_modulus s.modulus ≡ true) where
    pub refuse_4_low : s.variables < 1 → refusal_at 4 1 ≡ first_of not_refused (header_cases s short)
    unfolding first_of header_cases
    refuse_4_low h = simp (e, lt-leb 1 s.variables h)

    module _ (some : 1 ≤ s.variables) where
      pub refuse_4_high : 8 < s.variables → refusal_at 4 1 ≡ first_of not_refused (header_cases s short)
      unfolding first_of header_cases
      refuse_4_high h = simp (e, le-leb 1 s.variables some, lt-leb s.variables 8 h)

      module _ (few : s.variables ≤ 8) where
        pub refuse_15 : right_weights s ≡ false → refusal_at 15 1 ≡ first_of not_refused (header_cases s short)
        unfolding first_of header_cases
        refuse_15 h = simp (e, le-leb 1 s.variables some, le-leb s.variables 8 few, h)

        module _ (right : right_weights s ≡ true) where
          pub refuse_6 : short ≡ true → refusal_at 6 0 ≡ first_of not_refused (header_cases s short)
          unfolding first_of header_cases
          refuse_6 h = simp (e, le-leb 1 s.variables some, le-leb s.variables 8 few, right, h)

          module _ (long : short ≡ false) where
            pub settings_pass : refusal_at 0 0 ≡ first_of not_refused (header_cases s short)
            unfolding first_of header_cases
            settings_pass = simp (e, le-leb 1 s.variables some, le-leb s.variables 8 few, right, long)

            pub settings_over : (l : List TextCase) → first_of not_refused (header_cases s short ++ l) ≡ first_of not_refused l
            unfolding first_of header_cases
            settings_over l = simp (e, le-leb 1 s.variables some, le-leb s.variables 8 few, right, long)

-- what holds where nothing is refused
pub record Allowed (s : Settings) (short : Bool) : Type 0 where
  pub modulus : is_modulus s.modulus ≡ true
  pub some : 1 ≤ s.variables
  pub few : s.variables ≤ 8
  pub right : right_weights s ≡ true
  pub long : short ≡ false

pub unless : (a b : ℕ) → (a < b → ⊥) → b ≤ a
unless a b n = omega (arith, n)

module _ (s : Settings) (short : Bool) (r : Refusal) (h : r ≡ first_of not_refused (header_cases s short)) (z : r.refusal ≡ 0) where
  never : (j a : ℕ) → 0 < j → refusal_at j a ≡ first_of not_refused (header_cases s short) → ⊥
  never j a i e = let f = ap (λ (x : Refusal). x.refusal) (e ∙ sym h) in omega arith

  pub room : Allowed s short
  room = pick (is_modulus s.modulus) refl (right_weights s) refl short refl
    where
      pick : (a : Bool) → is_modulus s.modulus ≡ a → (b : Bool) → right_weights s ≡ b → (c : Bool) → short ≡ c → Allowed s short
      pick false e b f c g = absurd (never 3 1 (omega arith) (refuse_3 s short e))
      pick true e b f c g =
          let some = unless s.variables 1 (λ l. never 4 1 (omega arith) (refuse_4_low s short e l)) in
          let few = unless 8 s.variables (λ l. never 4 1 (omega arith) (refuse_4_high s short e some l)) in
          behind some few b f c g
        where
          behind : 1 ≤ s.variables → s.variables ≤ 8 → (b : Bool) → right_weights s ≡ b → (c : Bool) → short ≡ c → Allowed s short
          behind some few false f c g = absurd (never 15 1 (omega arith) (refuse_15 s short e some few f))
          behind some few true f true g = absurd (never 6 0 (omega arith) (refuse_6 s short e some few f g))
          behind some few true f false g = record { modulus = e; some = some; few = few; right = f; long = g }

-- buffers that are long enough
pub long_buffers : (a b c d : ℕ) → short_buffers a b c d ≡ false → (512 ≤ a) × (64 ≤ b) × (64 ≤ c) × (8 ≤ d)
unfolding short_buffers
long_buffers a b c d e =
    let (f, k) = neither (ltb a 512 || ltb b 64 || ltb c 64) (ltb d 8) e in
    let (g, j) = neither (ltb a 512 || ltb b 64) (ltb c 64) f in
    let (h, i) = neither (ltb a 512) (ltb b 64) g in
    (ltb-false a 512 h, ltb-false b 64 i, ltb-false c 64 j, ltb-false d 8 k)

-- a case of the first list decides for both
pub first_of_both : (l k : List TextCase) (r : Refusal) → (r.refusal ≡ 0 → ⊥) → r ≡ first_of not_refused l → r ≡ first_of not_refused (l ++ k)
unfolding first_of
first_of_both [] k r n e = absurd (n (ap (λ (x : Refusal). x.refusal) e))
first_of_both (c ∷ l) k r n e = go c.0 e (first_of_both l k r n)
  where
    go : (b : Bool) → r ≡ cond b c.1 (first_of not_refused l) → (r ≡ first_of not_refused l → r ≡ first_of not_refused (l ++ k))
        → r ≡ cond b c.1 (first_of not_refused (l ++ k))
    go true e f = e
    go false e f = f e

-- a case that refuses and does not hold
pub passed : (b : Bool) (k at : ℕ) (l : List TextCase) → (first_of not_refused ((b, refusal_at (suc k) at) ∷ l)).refusal ≡ 0 → (b ≡ false) × ((first_of not_refused l).refusal ≡ 0)
unfolding first_of
passed true k at l h = absurd (omega arith)
passed false k at l h = (refl, h)

-- an entry at a place is refused, and at no place
pub place_refuses : (refusal k : ℕ) (l : List TextCase) → (k ≡ 0 → ⊥) → refusal_at refusal (suc k) ≡ first_of not_refused (entry_case refusal k ∷ l)
unfolding first_of
place_refuses refusal k l n = simp (ne_eqb k 0 n)

pub place_passes : (refusal k : ℕ) (l : List TextCase) → k ≡ 0 → first_of not_refused (entry_case refusal k ∷ l) ≡ first_of not_refused l
unfolding first_of
place_passes refusal k l z = simp (eq-eqb k 0 z)

-- an answer's refusal, its number of points where there is none, and no number where there is one
module _ (r : Refusal) (n : ℕ) where
  pub answer_refusal : {a : Gathered} → a ≡ answered r n → refusal_at a.refusal a.at ≡ r
  unfolding answered
  answer_refusal e = ap (λ (x : Gathered). refusal_at x.refusal x.at) e

  pub answer_number : {a : Gathered} → a ≡ answered r n → a.refusal ≡ 0 → a.n ≡ n
  unfolding answered
  answer_number e z = ap (λ (x : Gathered). x.n) e ∙ rw (eq-eqb r.refusal 0 (sym (ap (λ (x : Gathered). x.refusal) e) ∙ z)) refl

  pub answer_no_points : (r.refusal ≡ 0 → ⊥) → (k : ℕ) → answered r n ≡ answered r k
  unfolding answered
  answer_no_points h k = rw (ne_eqb r.refusal 0 h) refl

-- a refusal, and an accepted text
module _ (l : List TextCase) (done : TextOutcome) (states values counts weights : List ℕ) where
  pub text_refused_lem : (r : Refusal) → r ≡ first_of not_refused l → (r.refusal ≡ 0 → ⊥)
      → text_refused r states values counts weights ≡ text_decided (first_of not_refused l) done states values counts weights
  unfolding text_decided
  text_refused_lem r e n = sym (ap (λ (x : Refusal). text_decided x done states values counts weights) (sym e) ∙ rw (ne_eqb r.refusal 0 n))

  pub text_accepted_lem : (r : Refusal) → r ≡ first_of not_refused l → r.refusal ≡ 0 → done ≡ text_decided (first_of not_refused l) done states values counts weights
  unfolding text_decided
  text_accepted_lem r e z = sym (ap (λ (x : Refusal). text_decided x done states values counts weights) (sym e) ∙ rw (eq-eqb r.refusal 0 z))

-- what an accepted text leaves
pub assembled : (u : Settings) (l states values counts weights : List ℕ) {n : ℕ} {points times firsts s v k w : List ℕ}
    → n ≡ length (gathered (points_of (valued_points (saying u l))))
    → EntriesTabled (map (valued_point u.modulus u.variables) (levels_at u.variables l)) points times firsts
    → s ≡ over points states → v ≡ over firsts values → k ≡ over times counts → w ≡ over u.weights weights
    → text_ended (record { refusal = 0; at = 0; modulus = u.modulus; variables = u.variables; order = u.order; n = n }) s v k w
    ≡ text_accepted (saying u l) states values counts weights
unfolding text_accepted saying valued_points
assembled u l states values counts weights a t e f g h =
    let b = e ∙ ap (λ (z : List ℕ). over z states) t.states in
    let c = f ∙ ap (λ (z : List ℕ). over z values) t.firsts in
    let d = g ∙ ap (λ (z : List ℕ). over z counts) t.times in
    cc
