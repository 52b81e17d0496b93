-- Withdrawing a point.
pub mod Withdrawal
