pub mod LastPlaces
pub mod Places
