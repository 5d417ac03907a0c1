-- The corner after the last exchange: the sums and quantities there, and what fits.
pub mod SumsAfter
pub mod SignsAfter
pub mod QuantitiesAfter
pub mod UnitLists
pub mod AttrsAfter
pub mod LevelsAfter
pub mod TermsAfter
pub mod TermsEnd
pub mod RowsOver
pub mod FirstRows
