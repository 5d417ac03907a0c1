pub mod Frames
pub mod Found
pub mod Cores
pub mod Swept
pub mod Replies
pub mod Printing
