-- The rows of levels after an exchange, and what has to fit there.
pub mod PivotFacts
pub mod CarriedFacts
pub mod MultipleFacts
pub mod FitFacts
pub mod CostFacts
pub mod MovedValues
pub mod NextLevels
pub mod AllNextLevels
pub mod Untouched
