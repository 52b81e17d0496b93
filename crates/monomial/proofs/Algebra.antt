-- Products, divisors and values of monomials; none of it knows an order.
pub mod Products
pub mod Division
pub mod Values
