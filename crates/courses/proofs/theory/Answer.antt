-- M-111: the model is defined at every state, and the interpolants lie in their places.
use mathlib.Core.Path.{◌≡◌, refl, sym, ◌∙◌, ap, ap₂}
use mathlib.Core.List.{List, [], ◌∷◌, ◌++◌, map}
use Prim.Native.Nat.{ℕ, zero, suc, ◌+◌, ◌-◌, ◌*◌, ◌%◌, ◌<◌}
use native.Mathlib.Nat.{mod-eq_of_lt, mod-lt}
use native.Mathlib.Decide.{ℕ_discrete}
use native.Mathlib.Omega.{arith}
use lib.ListN.{length, get_or, take, drop, replicate, length-map, length-append}
use lib.Seq.{drop_at}
use Rattle.residue.specs.Layout.{fill, in_places, over, length_fill}
use Rattle.residue.proofs.Layouts.{length_places, table_split, take_over}
use Rattle.residue.proofs.Places.{place_at}
use Rattle.residue.proofs.level.Moduli.{modulus_range}
use Rattle.specification.specs.declared.settings.Settings.{Settings}
use Rattle.specification.specs.Instance.{reduced}
use Rattle.specification.specs.Counted.{points_of}
use Rattle.specification.specs.Points.{IsPoint}
use Rattle.specification.specs.Settings.{Accepted}
use Rattle.courses.specs.TimeCourse.{Timed, Move, moves_of, points_of_moves, gene_of, genes_of, value_of, step, course_model}

pub genes_length : (s : Settings) (ms : List Move) (k : ℕ) → length (genes_of s ms k) ≡ k
unfolding genes_of
genes_length s ms zero = refl
genes_length s ms (suc k) = length-append (genes_of s ms k) (gene_of s ms k ∷ []) ∙ omega (arith, genes_length s ms k)

-- one place of a list that is put together from the front
get_front : {A : Type 0} (l r : List A) (i : ℕ) (d : A) → i < length l → get_or (l ++ r) i d ≡ get_or l i d
get_front [] r i d h = absurd (omega arith)
get_front (a ∷ l) r zero d h = refl
get_front (a ∷ l) r (suc i) d h = get_front l r i d (omega arith)

get_last : {A : Type 0} (l : List A) (a : A) (i : ℕ) (d : A) → i ≡ length l → get_or (l ++ (a ∷ [])) i d ≡ a
get_last [] a i d e = rw e refl
get_last (b ∷ l) a zero d e = absurd (omega arith)
get_last (b ∷ l) a (suc i) d e = get_last l a i d (omega arith)

pub gene_at : (s : Settings) (ms : List Move) (k i : ℕ) → i < k → get_or (genes_of s ms k) i [] ≡ gene_of s ms i
unfolding genes_of
gene_at s ms zero i h = absurd (omega arith)
gene_at s ms (suc k) i h = go (ℕ_discrete i k) (λ z. gene_at s ms k i z)
  where
    go : Dec (i ≡ k) → (i < k → get_or (genes_of s ms k) i [] ≡ gene_of s ms i) → get_or (genes_of s ms k ++ (gene_of s ms k ∷ [])) i [] ≡ gene_of s ms i
    go (yes e) rec = get_last (genes_of s ms k) (gene_of s ms k) i [] (e ∙ sym (genes_length s ms k)) ∙ ap (gene_of s ms) (sym e)
    go (no n) rec = get_front (genes_of s ms k) (gene_of s ms k ∷ []) i [] (omega (arith, n, genes_length s ms k)) ∙ rec (omega (arith, n))

-- 'gene g's from byte 64 times (g-1), the rest 0': the interpolant of variable i+1 among the 512 bytes
pub model_place : (s : Settings) → Accepted s → (l : List Timed) (buffer : List ℕ) (i : ℕ) → i < s.variables
    → take 64 (drop (64 * i) (take 512 (course_model s l buffer))) ≡ fill 64 (gene_of s (moves_of l) i)
unfolding course_model
model_place s ok l buffer i h =
    let new = fill 512 (in_places 64 (genes_of s (moves_of l) s.variables)) in
    let long : length new ≡ 512 = length_fill 512 (in_places 64 (genes_of s (moves_of l) s.variables)) in
    ap (λ (b : List ℕ). take 64 (drop (64 * i) b)) (ap (λ (k : ℕ). take k (over new buffer)) (sym long) ∙ take_over new buffer)
    ∙ place_at 64 512 (genes_of s (moves_of l) s.variables) i [] (omega (arith, genes_length s (moves_of l) s.variables, ok.few))
    (omega (arith, h, genes_length s (moves_of l) s.variables))
    ∙ ap (fill 64) (gene_at s (moves_of l) s.variables i h)

pub model_rest : (s : Settings) → Accepted s → (l : List Timed) (buffer : List ℕ)
    → drop (64 * s.variables) (take 512 (course_model s l buffer)) ≡ replicate (512 - 64 * s.variables) 0
unfolding course_model
model_rest s ok l buffer =
    let G = genes_of s (moves_of l) s.variables in
    let many : length G ≡ s.variables = genes_length s (moves_of l) s.variables in
    let size : 512 ≡ 64 * length G + (512 - 64 * s.variables) = omega (arith, many, ok.few) in
    let new = fill 512 (in_places 64 G) in
    ap (drop (64 * s.variables)) (ap (λ (k : ℕ). take k (over new buffer)) (sym (length_fill 512 (in_places 64 G))) ∙ take_over new buffer
    ∙ ap (λ (k : ℕ). fill k (in_places 64 G)) size ∙ table_split 64 G (512 - 64 * s.variables))
    ∙ drop_at (in_places 64 G) (replicate (512 - 64 * s.variables) 0) (64 * s.variables) (length_places 64 G ∙ omega (arith, many))

-- The model is defined at every state, point or not, and gives a state.
pub step_point : (s : Settings) → Accepted s → (ms : List Move) (P : List ℕ) → IsPoint s (step s ms P)
unfolding step value_of
step_point s ok ms P = record {
  long = length-map (genes_of s ms s.variables) _ ∙ genes_length s ms s.variables;
  same = all (genes_of s ms s.variables);
}
  where
    p : s.modulus ≡ suc (s.modulus - 1)
    p = omega (arith, modulus_range s.modulus ok.modulus)

    small : (n : ℕ) → (n % s.modulus) % suc (s.modulus - 1) ≡ n % s.modulus
    small n = rw (← p) (mod-eq_of_lt (mod-lt n (omega (arith, modulus_range s.modulus ok.modulus))))

    all : (G : List (List ℕ)) → reduced (s.modulus - 1) (map (λ cs. value_of s (points_of (points_of_moves ms)) cs P) G)
        ≡ map (λ cs. value_of s (points_of (points_of_moves ms)) cs P) G
    all [] = refl
    all (cs ∷ G) = ap₂ (λ (x : ℕ) (r : List ℕ). x ∷ r) (small _) (all G)
