pub mod Lending
pub mod Undo
pub mod Versions
pub mod Numbers
pub mod Indexes
pub mod Lists
pub mod Matrices
pub mod Walks
