-- Writings of attributes and marks: that there is one, that it is unique, and what does not fit.
pub mod Fits
pub mod Linear
pub mod LowestForms
pub mod Equations
pub mod Lifts
pub mod TermLifts
pub mod Directions
