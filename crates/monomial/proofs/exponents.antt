-- Lemmas of the module exponents.
mod Divisors
