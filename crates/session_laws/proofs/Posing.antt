-- One problem at most is posed by a command.
pub mod Sums
pub mod RowTerms
pub mod LineRows
pub mod FormatRows
pub mod HeldRows
pub mod GoingViews
pub mod Drafts
pub mod OneDraft
pub mod Posed
pub mod Steps
pub mod First
pub mod Questions
pub mod Windows
