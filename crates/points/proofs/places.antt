-- Where points stand.
pub mod PointPlaces
