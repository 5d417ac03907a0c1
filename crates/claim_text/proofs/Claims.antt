-- The lines of claims: how they are read, what they say, and that what is written is read.
pub mod SameClaims
pub mod ClaimDrafts
pub mod ClaimReadings
pub mod ClaimRoundTrip
pub mod SeenStays
pub mod ClaimForms
