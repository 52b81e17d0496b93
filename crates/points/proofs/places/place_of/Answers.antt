-- `places::place_of` meets its contract: the places of the table are gone through, by their keys.
use mathlib.Core.Path.{◌∙◌}
use mathlib.Core.List.{List}
use Prim.Native.Nat.{ℕ}
use native.Mathlib.Omega.{arith}
use borrow.Author.Rules.{rules}
use borrow.Author.Tests.{tests}
use lib.Dec.{eqb}
use Rattle.std.proofs.lemmas.Iterator.Search.{position_from_yields_List}
use Rattle.residue.specs.Layout.{groups}
use Rattle.residue.specs.Lists.{key_of}
use Rattle.residue.proofs.Chunks.{rows_given}
use Rattle.residue.proofs.Places.{length_groups}
use Rattle.points.proofs.places.PointPlaces.{place_by_key, place_or_end, place_few}
use Rattle.points.proofs.places.place_of.Goals as goal

pub returns : goal.returns
returns c =
    let P : List ℕ = c.args.point.now in
    let t : List ℕ = c.args.states.now in
    let n : ℕ = c.args.n in
    let S = groups 8 n t in
    let found = position_from_yields_List {s = c.chunks_exact.result} (λ (Q : List ℕ). eqb c.key-own.result (key_of 8 Q)) c.position.new.self _ c.position.result c.position.ensures.ran
    (rows_given 8 n t (omega arith) c.requires.n_in_bounds c.chunks_exact.ensures.rest c.chunks_exact.ensures.size) (λ x b q k. search (rules, tests)) in
    let is = place_by_key P (λ j h. (c.type_inv.point j).fits) c.requires.point_len c.key-own.ensures n t (λ j h. (c.type_inv.states j).fits) c.requires.n_in_bounds in
    c.unwrap_or.ensures ∙ place_or_end (rw (is, length_groups 8 n t) at found) (place_few P t n)
