-- `stepping::step` meets its contract.
use mathlib.Core.Path.{◌≡◌, sym, ap, subst, ◌∙◌}
use mathlib.Core.List.{List, ◌++◌}
use Prim.Native.Nat.{ℕ, ◌≤◌}
use native.Mathlib.Omega.{arith}
use lib.ListN.{length, take, drop, replicate, length-replicate, length-append}
use Rattle.residue.specs.Vector.{Below}
use Rattle.steps.specs.Stepping.{values_at}
use Rattle.steps.proofs.stepping.StepLaws.{front_ones, values_front, values_long, values_below, step_sums}
use Rattle.steps.proofs.stepping.step.Goals as goal
use Rattle.steps.proofs.stepping.step.Goals.{Start}

ones : (s : Start) → take s.args.n (replicate {A = ℕ} 64 1) ≡ replicate s.args.n 1
ones s = front_ones s.args.n 64 s.requires.le_p.3

ones_long : (s : Start) → length (take s.args.n (replicate {A = ℕ} 64 1)) ≡ s.args.n
ones_long s = ap length (ones s) ∙ length-replicate s.args.n 1

abbrev values : Start → List ℕ
values s = let a = s.args in values_at a.p a.m a.n a.standard.now a.state.now

long : (s : Start) → length (values s) ≡ s.args.n
long s = let a = s.args in values_long a.p a.m a.n a.standard.now a.state.now

-- the values, at the front of their table
front : (s : Start) (found : List ℕ) → found ≡ (let a = s.args in values_at a.p a.m (length (take a.n (replicate {A = ℕ} 64 1))) a.standard.now a.state.now)
    → take s.args.n (found ++ drop s.args.n (replicate {A = ℕ} 64 1)) ≡ values s
front s found e = let a = s.args in values_front a.p a.m a.n a.standard.now a.state.now (take a.n (replicate {A = ℕ} 64 1)) found (drop a.n (replicate {A = ℕ} 64 1)) (ones_long s) e

room : (s : Start) (found : List ℕ) → found ≡ (let a = s.args in values_at a.p a.m (length (take a.n (replicate {A = ℕ} 64 1))) a.standard.now a.state.now)
    → s.args.n ≤ length (found ++ drop s.args.n (replicate {A = ℕ} 64 1))
room s found e = let a = s.args in
    omega (arith, length-append found (drop a.n (replicate {A = ℕ} 64 1)), ap length e, values_long a.p a.m (length (take a.n (replicate {A = ℕ} 64 1))) a.standard.now a.state.now, ones_long s)

pub slice_bounds-put_values-end : goal.slice_bounds-put_values-end
slice_bounds-put_values-end c = sym (ones_long (goal.at.slice_bounds-put_values-end c).Start)

pub put_values-requires : goal.put_values-requires
put_values-requires c = let s = c in
    let n = ones_long (goal.at.put_values-requires s).Start in record { le_p = (s.requires.le_p.0, s.requires.le_p.1, s.requires.le_p.2, s.requires.le_p.4); values_in_bounds = (omega (arith, n, s.requires.n_in_bounds.0), omega (arith, n, s.requires.le_p)); by_index = (λ i h. s.requires.n_in_bounds.1 i (omega (arith, h, n))); state_len = s.requires.state_len; values_value = ones (goal.at.put_values-requires s).Start ∙ ap (λ (k : ℕ). replicate k 1) (sym n) }

pub slice_bounds-values-end-2 : goal.slice_bounds-values-end-2
slice_bounds-values-end-2 c = let s = c in room (goal.at.slice_bounds-values-end-2 s).Start _ c.put_values.ensures

pub slice_bounds-put_sums-end : goal.slice_bounds-put_sums-end
slice_bounds-put_sums-end c = let s = c in sym (ap length (front (goal.at.slice_bounds-put_sums-end s).Start _ c.put_values.ensures) ∙ long (goal.at.slice_bounds-put_sums-end s).Start)

pub put_sums-requires : goal.put_sums-requires
put_sums-requires c = let s = c in
    let a = s.args in
    let f = front (goal.at.put_sums-requires s).Start _ c.put_values.ensures in record { le_p = (s.requires.le_p.0, s.requires.le_p.1, s.requires.le_p.2); values_len_bound = (omega (arith, ap length f, long (goal.at.put_sums-requires s).Start, s.requires.le_p), subst (Below a.p) (sym f) (values_below a.p a.m a.n a.standard.now a.state.now (omega (arith, s.requires.le_p)))); in_bounds = s.requires.in_bounds; next_value = s.requires.next_value }

pub returns : goal.returns
returns c = let s = c in
    let a = s.args in
    c.put_sums.ensures ∙ step_sums a.p a.m a.n a.standard.now a.state.now a.genes.now _ (front (goal.at.returns s).Start _ c.put_values.ensures)
