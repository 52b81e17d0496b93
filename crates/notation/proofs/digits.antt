-- Numbers in decimal.
pub mod NumberDigits
pub mod LeadingDigits
