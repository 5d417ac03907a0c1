-- Whole coefficients as the code keeps them: sums and pieces.
pub mod Pieces
pub mod Sums
