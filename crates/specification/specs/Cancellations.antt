-- How many cancellations drawing up costs: docs/SCOPE.md, 'Cancellations' (request M-105), and from that section alone. A column is a list of residues, one for
-- each point in order of arrival.
use Rattle.std.specs.Prelude.{Bool, true, false, not, cond, ◌&&◌, length, get_or, eqb}
use mathlib.Core.List.{List, [], ◌∷◌, ◌++◌, map, zip_with}
use Prim.Native.Nat.{ℕ, zero, suc, ◌+◌, ◌*◌, ◌%◌, Ordering}
use Rattle.residue.specs.Lists.{all_zero}
use Rattle.specification.specs.Space.{Space}
use Rattle.specification.specs.Extension.{divided}

-- A pivot: the place of its point in order of arrival, and its column, which is 1 there.
pub record Pivot : Type 0 where
  pub place : ℕ
  pub column : List ℕ

-- A column that meets pivots, and the cancellations counted so far.
pub record Meeting : Type 0 where
  pub column : List ℕ
  pub cancellations : ℕ

abbrev pub meeting : List ℕ → ℕ → Meeting
meeting w n = record { column = w; cancellations = n }

-- a column less e times another, modulo suc q (q is minus 1)
unfoldable pub less_times : ℕ → ℕ → List ℕ → List ℕ → List ℕ
less_times q e = zip_with (λ y z. (y + q * (e * z)) % suc q)

-- one pivot met: it counts where the entry at the pivot's point is not 0 at that moment
unfoldable pub meets : ℕ → Pivot → Meeting → Meeting
meets q v s =
    cond (eqb (get_or s.column v.place 0) 0) s
    (meeting (less_times q (get_or s.column v.place 0) s.column v.column) (s.cancellations + 1))

-- all of them met, in the order in which they were found
unfoldable pub meets_all : ℕ → List Pivot → Meeting → Meeting
meets_all q [] s = s
meets_all q (v ∷ l) s = meets_all q l (meets q v s)

-- the place of the first entry that is not 0
unfoldable pub first_place : List ℕ → ℕ
first_place [] = 0
first_place (y ∷ w) = cond (eqb y 0) (suc (first_place w)) 0

abbrev pub is_less : Ordering → Bool
is_less Ordering.lt = true
is_less Ordering.eq = false
is_less Ordering.gt = false

module _ (D : Space) where
  open D use {q, m, Mono, Pt, one, x, val, cmp, inv}

  -- What has been found, in the order in which it was found: the standard monomials, with a pivot each, and the leads; and the cancellations counted.
  pub record Found : Type 0 where
    pub standard : List Mono
    pub leads : List Mono
    pub pivots : List Pivot
    pub cancellations : ℕ

  abbrev pub found : List Mono → List Mono → List Pivot → ℕ → Found
  found s l v n = record { standard = s; leads = l; pivots = v; cancellations = n }

  -- a monomial's column of values
  abbrev pub value_column : List Pt → Mono → List ℕ
  value_column S a = map (λ P. val a P % suc q) S

  -- the pivot of a column: its first entry that is not 0 is scaled to 1
  unfoldable pub pivot_of : List ℕ → Pivot
  pivot_of w = record { place = first_place w; column = map (λ y. (inv (get_or w (first_place w) 0) * y) % suc q) w }

  -- a column left 0 is that of a lead, any other becomes a pivot
  unfoldable pub settled : Mono → Meeting → Found → Found
  settled a w f =
      cond (all_zero w.column) (found f.standard (f.leads ++ (a ∷ [])) f.pivots (f.cancellations + w.cancellations))
      (found (f.standard ++ (a ∷ [])) f.leads (f.pivots ++ (pivot_of w.column ∷ [])) (f.cancellations + w.cancellations))

  -- one monomial examined
  unfoldable pub examined : List Pt → Mono → Found → Found
  examined S a f = settled a (meets_all q f.pivots (meeting (value_column S a) 0)) f

  -- What is examined next, if anything: the least monomial above the last one, c, that no lead found divides. It is a variable times a standard monomial found,
  -- so those are gone through; Examination says it of all monomials, and `examination` (proofs/cancellations/Counted) that it is the same.
  pub data Next : Type 0 where
    nothing : Next
    next : Mono → Next

  abbrev pub lesser : Mono → Next → Next
  lesser a nothing = next a
  lesser a (next b) = cond (is_less (cmp a b)) (next a) (next b)

  -- above c, and no multiple of a lead found
  abbrev pub is_due : Mono → List Mono → Mono → Bool
  is_due c leads a = is_less (cmp c a) && not (divided D leads a)

  unfoldable pub least_due : Mono → List Mono → List Mono → Next
  least_due c leads [] = nothing
  least_due c leads (a ∷ l) = cond (is_due c leads a) (lesser a (least_due c leads l)) (least_due c leads l)

  -- the products of the first k variables with the monomials of a list
  unfoldable pub products_of : List Mono → ℕ → List Mono
  products_of l zero = []
  products_of l (suc k) = map (x k) l ++ products_of l k

  unfoldable pub next_after : Mono → Found → Next
  next_after c f = least_due c f.leads (products_of f.standard m)

  abbrev pub onward : Next → Found → (Mono → Found) → Found
  onward nothing f go = f
  onward (next b) f go = go b

  -- the rest of the examination, when c was the last, in at most so many steps
  unfoldable pub examined_from : ℕ → List Pt → Mono → Found → Found
  examined_from zero S c f = f
  examined_from (suc t) S c f = onward (next_after c f) f (λ b. examined_from t S b (examined S b f))

  -- 1 is examined first; at most n times m more are to come, and one step more sees that none is left
  unfoldable pub examined_all : List Pt → Found
  examined_all S = examined_from (suc (length S * m)) S one (examined S one (found [] [] [] 0))

  abbrev pub cancellations_of : List Pt → ℕ
  cancellations_of S = (examined_all S).cancellations
