-- What goes of what is held: items and rows.
pub mod LeavingItems
pub mod LeavingRows
