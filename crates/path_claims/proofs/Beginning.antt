-- The corner where a route begins: what fits there, in which order, and the verdict there.
pub mod BegunParts
pub mod SumOrders
pub mod StartVerdicts
pub mod StartFits
pub mod FirstAttrs
