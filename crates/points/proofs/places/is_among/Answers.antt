-- `places::is_among` meets its contract: a point is among others exactly where its place is before their end.
use mathlib.Core.Path.{ap₂, sym, ◌∙◌}
use lib.Dec.{ltb}
use Rattle.residue.specs.Layout.{groups}
use Rattle.residue.proofs.Places.{length_groups}
use Rattle.points.proofs.places.PointPlaces.{among_place}
use Rattle.points.proofs.places.is_among.Goals as goal

pub returns : goal.returns
returns c = let s = c in
    let S = groups 8 s.args.n s.args.states.now in
    ap₂ ltb c.place_of.ensures (sym (length_groups 8 s.args.n s.args.states.now)) ∙ among_place s.args.point.now S
