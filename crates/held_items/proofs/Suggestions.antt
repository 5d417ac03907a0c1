-- Suggestions: their items and rows.
pub mod SuggestionItems
pub mod SuggestionTerms
