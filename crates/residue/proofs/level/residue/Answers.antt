-- `level::residue` meets its contract, by the size of the level and its sign.
use mathlib.Core.Path.{◌≡◌, sym, ap, ◌∙◌}
use lib.IntN.{ℤ, pos, nat_abs}
use lib.Signed.{lt_z}
use mir.Syntax.{w8}
use mir.Val.{SFits, to_z, of_z}
use mir.Facts.{to_z-of_z}
use Rattle.residue.proofs.level.Levels.{of_negative, of_kept, of_outside}
use Rattle.residue.proofs.level.residue.Goals as goal

-- a level is read as it was written
read : (z : ℤ) → SFits w8 z → to_z w8 (of_z w8 z) ≡ z
read z = to_z-of_z {w = w8}

sign : (z : ℤ) → SFits w8 z → lt_z z (pos 0) ≡ lt_z (to_z w8 (of_z w8 z)) (pos 0)
sign z f = sym (ap (λ (y : ℤ). lt_z y (pos 0)) (read z f))

pub returns-then-p-size : goal.returns-then-p-size
returns-then-p-size c = let z = c.args.level in of_outside c.args.p _ z (c.magnitude-size.ensures ∙ ap nat_abs (read z c.ranges.level)) c.if-p-size.true

pub returns-then-level-lt0 : goal.returns-then-level-lt0
returns-then-level-lt0 c =
    let z = c.args.level in
    let f = c.ranges.level in
    of_negative c.args.p _ z (c.magnitude-size.ensures ∙ ap nat_abs (read z f)) (sign z f ∙ c.if-level-lt0.true) c.if-p-size.false

pub returns-else-level-lt0 : goal.returns-else-level-lt0
returns-else-level-lt0 c =
    let z = c.args.level in
    let f = c.ranges.level in
    of_kept c.args.p _ z (c.magnitude-size.ensures ∙ ap nat_abs (read z f)) (sign z f ∙ c.if-level-lt0.false) c.if-p-size.false
