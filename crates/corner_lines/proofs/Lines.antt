-- Lines' equations: what they write, their lowest terms, exchanges, and what moves.
pub mod MarkForms
pub mod LineWritings
pub mod LineUnfits
pub mod LineTerms
pub mod LineExchanges
pub mod LineCarried
pub mod LineMoves
pub mod LineSums
pub mod LinePivots
