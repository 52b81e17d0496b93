-- The forms of fields.
pub mod WeightsRead
pub mod LastField
pub mod NoQuote
