pub mod Formats
pub mod Grammar
pub mod Reading
pub mod Stops
pub mod Text
pub mod View
pub mod Writable
