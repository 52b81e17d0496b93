-- The 8 bytes of a monomial in the tables, its rank, and the variables that occur in it.
use mathlib.Core.Path.{◌≡◌, refl, sym, ap, ◌∙◌}
use mathlib.Core.Logic.{inl, inr}
use mathlib.Core.List.{List}
use Prim.Native.Nat.{ℕ, ◌+◌, ◌-◌, ◌<◌, ◌≤◌, compare, Ordering}
use native.Mathlib.Nat.{add_comm}
use native.Mathlib.Omega.{arith}
use native.Mathlib.Decide.{dec_lt, ℕ_discrete}
use lib.ListN.{length, get_or, set, length-set, get_or-eq_default}
use lib.Seq.{get_or-set_same, get_or-set_other, set-set, set-get_or}
use Rattle.residue.specs.Layout.{fill, length_fill}
use Rattle.residue.proofs.Layouts.{fill_at}
use Rattle.monomial.specs.Monomial.{degree, one, times_variable}
use Rattle.monomial.specs.Order.{Order, cmp, LightOrder}
use Rattle.monomial.specs.Rank.{rank_of, variable_rank, rank_bound}
use Rattle.monomial.proofs.Algebra.Products.{length_times_variable, length_variable, degree_times_variable}
use Rattle.monomial.proofs.Orders.Answers.{Says, less, same, more, says, said, lt≢eq, gt≢lt}
use Rattle.monomial.proofs.Orders.Lawful.{lawful}
use Rattle.monomial.proofs.Padding.{degree_one, degree_fill, fill_times_variable}
use Rattle.monomial.proofs.rank.Ranks.{rank_fill_cmp, rank_fits, rank_times_variable}
use Rattle.monomial.proofs.candidate.Counts.{Occurs}

-- the rank of a variable is small
pub variable_small : (order : Order) → LightOrder order → (k : ℕ) → k < 8 → variable_rank order k < rank_bound
unfolding variable_rank
variable_small order t k h =
    rank_fits order t (times_variable k (one 8)) (length_variable k 8)
    (omega (arith, degree_times_variable k (one 8) (omega arith), degree_one 8))

-- a monomial in which a variable occurs is a product by it
divided : (b : List ℕ) (i : ℕ) → i < length b → ¬ (get_or b i 0 ≡ 0) → b ≡ times_variable i (set b i (get_or b i 0 - 1))
divided b i h n =
    let e : get_or (set b i (get_or b i 0 - 1)) i 0 + 1 ≡ get_or b i 0 = omega (arith, get_or-set_same b i (get_or b i 0 - 1) 0 h) in
    sym (set-set b i (get_or b i 0 - 1) _ ∙ ap (set b i) e ∙ set-get_or b i 0)

module _ (a : List ℕ) (l : length a ≤ 8) where
  module _ (order : Order) where
    pub rank_small : LightOrder order → degree a < 65 → rank_of order (fill 8 a) < rank_bound
    rank_small t h = rank_fits order t (fill 8 a) (length_fill 8 a) (rw (degree_fill a l) h)

    pub rank_times : (k : ℕ) → k < length a → rank_of order (fill 8 (times_variable k a)) ≡ rank_of order (fill 8 a) + variable_rank order k
    rank_times k h = rw (fill_times_variable a l k h) (rank_times_variable order k (fill 8 a) (length_fill 8 a) ∙ add_comm _ _)

    module _ (b : List ℕ) (e : length a ≡ length b) (h : degree a < 65) (k : degree b < 65) where
      compares : compare (rank_of order (fill 8 a)) (rank_of order (fill 8 b)) ≡ cmp order a b
      compares = rank_fill_cmp order a b e l h k

      pub rank_less : cmp order a b ≡ Ordering.lt → rank_of order (fill 8 a) < rank_of order (fill 8 b)
      rank_less u = go (says (rank_of order (fill 8 a)) (rank_of order (fill 8 b))) (compares ∙ u)
        where
          go : {o : Ordering} → Says (rank_of order (fill 8 a)) (rank_of order (fill 8 b)) o → o ≡ Ordering.lt → rank_of order (fill 8 a) < rank_of order (fill 8 b)
          go (less w) z = w
          go (same w) z = absurd (lt≢eq (sym z))
          go (more w) z = absurd (gt≢lt z)

      pub rank_same : rank_of order (fill 8 a) ≡ rank_of order (fill 8 b) → a ≡ b
      rank_same u = (lawful order).eq a b (sym compares ∙ said (same u))

  -- a variable occurs in x_(k+1) times a exactly if that is a product by it
  pub product_occurs : (k i : ℕ) (c : List ℕ) → i < length c → i < 8 → times_variable k a ≡ times_variable i c → Occurs (fill 8 a) k i
  product_occurs k i c h s e = go (ℕ_discrete i k)
    where
      go : Dec (i ≡ k) → Occurs (fill 8 a) k i
      go (yes z) = inl z
      go (no z) =
          inr (λ u. omega (arith, fill_at 8 a i s, get_or-set_other a k i (get_or a k 0 + 1) 0 z, ap (λ (y : List ℕ). get_or y i 0) e, get_or-set_same c i (get_or c i 0 + 1) 0 h))

  pub record Quotient (k i : ℕ) : Type 0 where
    pub within : i < length a
    pub by : List ℕ
    pub long : length by ≡ length a
    pub product : times_variable k a ≡ times_variable i by

  pub occurs_product : (k i : ℕ) → k < length a → i < 8 → Occurs (fill 8 a) k i → Quotient k i
  occurs_product k i h s (inl e) = record { within = omega arith; by = a; long = refl; product = ap (λ (z : ℕ). times_variable z a) (sym e) }
  occurs_product k i h s (inr n) = go (dec_lt i (length a)) (ℕ_discrete i k)
    where
      quotient : i < length a → ¬ (get_or (times_variable k a) i 0 ≡ 0) → Quotient k i
      quotient u z =
          record {
            within = u;
            by = set (times_variable k a) i (get_or (times_variable k a) i 0 - 1);
            long = simp length-set;
            product = divided (times_variable k a) i (rw (length_times_variable k a) u) z;
          }

      go : Dec (i < length a) → Dec (i ≡ k) → Quotient k i
      go (yes u) (yes e) = quotient u (λ z. omega (arith, rw e at z, get_or-set_same a k (get_or a k 0 + 1) 0 h))
      go (yes u) (no e) = quotient u (λ z. n (fill_at 8 a i s ∙ sym (get_or-set_other a k i (get_or a k 0 + 1) 0 e) ∙ z))
      go (no u) d = absurd (n (fill_at 8 a i s ∙ get_or-eq_default a 0 (omega arith)))
