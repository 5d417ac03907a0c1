pub mod Stays
pub mod Shifts
pub mod AstrayStays
pub mod ExchangedStays
