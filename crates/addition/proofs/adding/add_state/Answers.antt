-- `adding::add_state` meets its contract.
use mathlib.Core.Path.{ap, ◌∙◌}
use Prim.Native.Nat.{ℕ, ◌+◌, ◌*◌, ◌-◌}
use native.Mathlib.Omega.{arith}
use native.Mathlib.Nat.{add-sub_cancel_left}
use Rattle.residue.specs.Layout.{with_place}
use Rattle.residue.proofs.Replaced.{put_whole}
use Rattle.addition.proofs.adding.add_state.Goals as goal

pub returns : goal.returns
returns c =
    let n : ℕ = c.args.n in
    put_whole 8 n (8 * n + 8 - 8 * n) c.args.point.now c.copy_from_slice.new.self (add-sub_cancel_left (8 * n) 8)
    (omega (arith, c.copy_from_slice.ensures.len)) c.requires.1.1.0 c.copy_from_slice-2.ensures.after
    ∙ ap (with_place 8 n c.args.point.now) c.copy_from_slice.ensures.after
