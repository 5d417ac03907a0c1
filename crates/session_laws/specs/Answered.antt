-- With room each line is answered.
pub mod Examples
pub mod States
pub mod Bounds
pub mod Room
pub mod Laws
