-- The lines of problems: how they are read, what they say, and that what is written is read.
pub mod Terms
pub mod Heads
pub mod Same
pub mod StayAttributes
pub mod Refused
pub mod Readings
pub mod RoundTrip
pub mod ProblemForms
pub mod Outside
