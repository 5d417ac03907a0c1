-- The problems of requests.
pub mod Moves
pub mod ShiftedRows
pub mod Left
pub mod Wholes
