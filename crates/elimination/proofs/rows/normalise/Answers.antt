-- `rows::normalise` meets its contract.
use mathlib.Core.Path.{◌≡◌, refl, sym, ap, ◌∙◌}
use mathlib.Core.Bool.{Bool, true, false}
use mathlib.Core.List.{List, ◌++◌}
use Prim.Native.Nat.{ℕ, ◌+◌, ◌<◌}
use native.Mathlib.Decide.{dec_lt}
use native.Mathlib.Omega.{arith}
use lib.ListN.{get_or, set, take, drop, take-append-drop}
use Rattle.residue.specs.Modulus.{is_modulus}
use Rattle.residue.specs.Inverse.{inverse_of}
use Rattle.residue.specs.Vector.{Below, scaled}
use Rattle.elimination.specs.Rows.{pivot_row}
use Rattle.residue.proofs.inverse.Inverses.{inverse_below_lem, no_modulus, no_residue}
use Rattle.residue.proofs.vector.Vectors.{scaled_one, below_take, below_set}
use Rattle.elimination.proofs.rows.normalise.Goals as goal
use Rattle.elimination.proofs.rows.normalise.Goals.{Start}

inverse_small : (p x : ℕ) → 0 < p → inverse_of p x < p
inverse_small p x z = go (is_modulus p) refl (dec_lt x p)
  where
    go : (b : Bool) → is_modulus p ≡ b → Dec (x < p) → inverse_of p x < p
    go true m (yes h) = inverse_below_lem p x m h
    go true m (no h) = rw (no_residue p x (omega (arith, h))) z
    go false m d = rw (no_modulus p x m) z

-- the row with its own coefficient, up to that: residues
front_below : (s : Start) → Below s.args.p (take (s.args.own + 1) (set s.args.work.now s.args.own 1))
front_below s =
    below_take s.args.p (s.args.own + 1) (set s.args.work.now s.args.own 1) (below_set s.args.p s.args.own 1 s.args.work.now (omega arith) s.requires.below)

pub returns-then-c-eq1 : goal.returns-then-c-eq1
unfolding pivot_row
returns-then-c-eq1 c = let s = c in
    let w : List ℕ = set s.args.work.now s.args.own 1 in
    let i = sym c.inverse-c.ensures ∙ c.if-c-eq1.true in
    sym (ap (λ (k : ℕ). scaled s.args.p k (take (s.args.own + 1) w) ++ drop (s.args.own + 1) w) i
    ∙ ap (λ (l : List ℕ). l ++ drop (s.args.own + 1) w) (scaled_one s.args.p (take (s.args.own + 1) w) (front_below (goal.at.returns-then-c-eq1 s).Start)) ∙ take-append-drop (s.args.own + 1) w)

pub scale-requires : goal.scale-requires
scale-requires c = let s = c in record { le_p = s.requires.le_p; below = front_below (goal.at.scale-requires s).Start; c_lt_p = rw c.inverse-c.ensures (inverse_small s.args.p (get_or s.args.work.now s.args.at 0) (omega arith)) }

pub returns : goal.returns
unfolding pivot_row
returns c = let called = c in
    let s = called in
    let w : List ℕ = set s.args.work.now s.args.own 1 in
    ap (λ (l : List ℕ). l ++ drop (s.args.own + 1) w)
    (called.scale.ensures ∙ ap (λ (k : ℕ). scaled s.args.p k (take (s.args.own + 1) w)) called.inverse-c.ensures)
