-- `parity::byte_of` meets its contract: the byte of the last variables, as many as have been seen.
use Rattle.std.proofs.Common.{◌≡◌, ◌-◌, ◌≤◌, length, drop}
use Rattle.interpolation.specs.Parity.{byte_of}
use Rattle.interpolation.proofs.parity.byte_of.Given as goal

abbrev pub invariant-loop-e : goal.invariant-loop-e
invariant-loop-e l = (length l.yielded ≤ 8) × (l.byte ≡ byte_of (drop (8 - length l.yielded) l.a))
