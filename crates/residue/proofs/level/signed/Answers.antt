-- `level::signed` meets its contract: a byte and its signed byte have the same bits.
use Rattle.std.proofs.Common.{ℤ, ap, ◌∙◌, to_z, of_z, w8}
use mir.Facts.{of_z-to_z}
use Rattle.residue.proofs.level.Levels.{signed_is}
use Rattle.residue.proofs.level.signed.Goals as goal

pub returns : goal.returns
returns c = ap (λ (y : ℤ). to_z w8 (of_z w8 y)) c.cast_signed.ensures ∙ ap (to_z w8) (of_z-to_z {w = w8} c.ranges.b) ∙ signed_is _ c.ranges.b.fits
