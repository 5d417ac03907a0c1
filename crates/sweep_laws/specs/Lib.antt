pub mod Fractions
pub mod Stretches
pub mod Stops
pub mod Laws
pub mod Instances
