pub mod LastCorner
pub mod Beginning
