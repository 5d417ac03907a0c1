-- Rows with other constants, for another metric or another size of the window.
pub mod AlikeRows
pub mod ConstantChanges
pub mod ItemConstants
pub mod MovedRows
pub mod MovingInstances
pub mod NearMoves
pub mod Nears
pub mod Renewed
pub mod Resized
pub mod SameRow
pub mod ShiftedRows
