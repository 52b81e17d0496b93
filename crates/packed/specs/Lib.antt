-- Drawing up modulo 2 with words (request M-108): the walk through the monomials.
pub mod PackedWalk
