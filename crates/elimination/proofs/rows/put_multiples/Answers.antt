-- `rows::put_multiples` meets its contract. The first k multiples are in the block, the next is at hand, and the first of the three that it is one of.
use mathlib.Core.Path.{◌≡◌, refl, sym, ap, ap₂, subst, ◌∙◌}
use mathlib.Core.Logic.{⊎_elim}
use mathlib.Core.List.{List, ◌++◌}
use Prim.Native.Nat.{ℕ, ◌+◌, ◌*◌, ◌-◌, ◌%◌, ◌<◌, ◌≤◌}
use native.Mathlib.Decide.{dec_lt}
use native.Mathlib.Nat.{not-suc-le-zero}
use native.Mathlib.Omega.{arith}
use lib.ListN.{length, get_or, take, drop}
use Rattle.residue.specs.Vector.{Below, add_scaled, scaled}
use Rattle.elimination.specs.Elimination.{factors}
use Rattle.residue.proofs.vector.Vectors.{scaled_length, scaled_below, scaled_one}
use Rattle.residue.proofs.Layouts.{over_all}
use Rattle.residue.proofs.Replaced.{replaced_length, replaced_before, replaced_here, part_long}
use Rattle.elimination.proofs.reducing.Multiples.{next_factor, scaled_sum, block_is}
use Rattle.elimination.proofs.rows.put_multiples.Invariants.{multiple, Filling}
use Rattle.elimination.proofs.rows.put_multiples.Goals as goal
use Rattle.elimination.proofs.rows.put_multiples.Goals.{At-loop-k, Joined-k-eq0}

-- a turn: the next multiple, one more in the block
turn : (p : ℕ) (row block first last first' last' part : List ℕ) (k n : ℕ) → length row ≡ 128 → n ≡ 128 → Filling p row block first last k → k < 9
    → first' ≡ multiple p row (k - k % 3) → part ≡ last → last' ≡ add_scaled p 1 last first'
    → Filling p row (take (128 * k) block ++ (part ++ drop n (drop (128 * k) block))) first' last' (k + 1)
turn p row block first last first' last' part k n long e F h f g l = record {
  most = omega arith;
  size = rw new (replaced_length (128 * k) 128 last block fits F.last_long) ∙ F.size;
  first_long = ap length f ∙ scaled_length p _ row ∙ long;
  last_long = ap length grown ∙ scaled_length p _ row ∙ long;
  last_is = λ m. grown ∙ ap (λ (c : ℕ). scaled p c row) (sym (next_factor k (omega arith)));
  first_is = λ m. f ∙ ap (multiple p row) (omega (arith, m));
  put = entries;
}
  where
    fits : 128 * k + 128 ≤ length block
    fits = omega (arith, F.size)

    new : take (128 * k) block ++ (part ++ drop n (drop (128 * k) block)) ≡ take (128 * k) block ++ (last ++ drop 128 (drop (128 * k) block))
    new = ap₂ (λ (a : List ℕ) (m : ℕ). take (128 * k) block ++ (a ++ drop m (drop (128 * k) block))) g e

    grown : last' ≡ scaled p (get_or factors k 0 + get_or factors (k - k % 3) 0) row
    grown = l ∙ ap₂ (add_scaled p 1) (F.last_is h) f ∙ scaled_sum p (get_or factors k 0) (get_or factors (k - k % 3) 0) row

    entries : (j i : ℕ) → j < k + 1 → i < 128 → get_or (take (128 * k) block ++ (part ++ drop n (drop (128 * k) block))) (128 * j + i) 0 ≡ get_or (multiple p row j) i 0
    entries j i b c = ap (λ (t : List ℕ). get_or t (128 * j + i) 0) new ∙ go (dec_lt j k)
      where
        go : Dec (j < k) → get_or (take (128 * k) block ++ (last ++ drop 128 (drop (128 * k) block))) (128 * j + i) 0 ≡ get_or (multiple p row j) i 0
        go (yes d) = replaced_before (128 * k) 128 last block fits F.last_long (128 * j + i) (omega arith) ∙ F.put j i d c
        go (no d) =
            let m : j ≡ k = omega (arith, d) in
            ap (λ (t : ℕ). get_or (take (128 * k) block ++ (last ++ drop 128 (drop (128 * k) block))) (128 * t + i) 0) m
            ∙ replaced_here (128 * k) 128 last block fits F.last_long i c ∙ ap (λ (t : List ℕ). get_or t i 0) (F.last_is h ∙ ap (multiple p row) (sym m))

-- the first multiple is the row itself
first_multiple : (p : ℕ) (row : List ℕ) → Below p row → multiple p row 0 ≡ row
unfolding factors
first_multiple p row below = scaled_one p row below

-- the first of the three, once it is settled
joined : (c : Joined-k-eq0) → let l = c in c.if-k-eq0.first ≡ multiple c.args.p c.args.row.now (l.loop-k.k - l.loop-k.k % 3)
joined c =
    let l = c in
    let s = c in
    ⊎_elim
    (λ w. let e : l.loop-k.k ≡ l.loop-k.k - l.loop-k.k % 3 = omega (arith, w.if-k-eq0.true) in
    w.first-is ∙ w.copy-then-k-eq0.ensures ∙ over_all l.loop-k.last l.loop-k.first (l.loop-k.invariant.last_long ∙ sym l.loop-k.invariant.first_long) ∙ l.loop-k.invariant.last_is (omega arith) ∙ ap (multiple s.args.p s.args.row.now) e)
    (λ w. w.first-is ∙ l.loop-k.invariant.first_is w.if-k-eq0.false)
    c.if-k-eq0.branch-raw

-- the place of the next multiple in the block
row_in_lem : (l : At-loop-k) → l.loop-k.k < 9 → length (take (128 * l.loop-k.k + 128 - 128 * l.loop-k.k) (drop (128 * l.loop-k.k) l.loop-k.block)) ≡ 128
row_in_lem l h = part_long (128 * l.loop-k.k) (128 * l.loop-k.k + 128 - 128 * l.loop-k.k) 128 l.loop-k.block (omega arith) (omega (arith, l.loop-k.invariant.size))

pub loop-k-init : goal.loop-k-init
loop-k-init c = let s = c in
    let e = c.copy.ensures ∙ over_all s.args.row.now _ s.requires.row_len.0 in
    record {
      most = omega arith;
      size = s.requires.row_len.1;
      first_long = refl;
      last_long = ap length e ∙ s.requires.row_len.0;
      last_is = λ h. e ∙ sym (first_multiple s.args.p s.args.row.now s.requires.below);
      first_is = λ h. absurd (h refl);
      put = λ j i h. absurd (not-suc-le-zero h);
    }

pub gain-requires : goal.gain-requires
gain-requires c = let l = c in
    let s = c in
    let p : ℕ = s.args.p in
    let row : List ℕ = s.args.row.now in
    let f = joined (goal.at.gain-requires c).Joined-k-eq0 in
    let e = l.loop-k.invariant.last_is (omega arith) in record { le_p = s.requires.le_p; width_le_work_size = (omega arith, l.loop-k.invariant.last_long, ap length f ∙ scaled_length p _ row ∙ s.requires.row_len.0); below = (subst (Below p) (sym e) (scaled_below p _ row (omega arith)), subst (Below p) (sym f) (scaled_below p _ row (omega arith))); zero_from = λ i a b. absurd (omega arith) }

pub loop-k-preserved : goal.loop-k-preserved
loop-k-preserved c = let l = c in
    let s = c in
    turn s.args.p s.args.row.now l.loop-k.block l.loop-k.first l.loop-k.last _ _ _ l.loop-k.k (128 * l.loop-k.k + 128 - 128 * l.loop-k.k) s.requires.row_len.0 (omega arith) l.loop-k.invariant (omega arith)
    (joined (goal.at.loop-k-preserved c).Joined-k-eq0) (c.copy-in-loop-k.ensures ∙ over_all l.loop-k.last _ (l.loop-k.invariant.last_long ∙ sym (row_in_lem (goal.at.loop-k-preserved l).At-loop-k (omega arith)))) c.gain.ensures

pub returns : goal.returns
returns c = let F = c.loop-k.invariant in
    let s = c in
    block_is s.args.p s.args.row.now c.loop-k.block s.requires.row_len.0 F.size (λ k i h l. F.put k i (omega (arith, F.most)) l)
