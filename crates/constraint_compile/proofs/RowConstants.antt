-- The constants of rows, and how they change with the metrics that they name.
pub mod Forms
pub mod Named
pub mod NamedInstances
pub mod SuggestedConstants
