-- Exchanges: the ratio rules, and what stays not negative.
pub mod Pivots
pub mod ValuesStay
pub mod ColumnsStay
pub mod DualChoice
pub mod PrimalChoice
