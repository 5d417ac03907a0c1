-- Where paths begin, how long they are, how costs move along them, and what their ends show.
pub mod Words
pub mod Few
pub mod Ends
pub mod Refuting
pub mod Rises
pub mod Complete
pub mod BeginsUnique
