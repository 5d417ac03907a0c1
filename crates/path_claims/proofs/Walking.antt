-- The checker's route: where it begins, the way to a path's first corner, and along its swaps.
pub mod GivingWay
pub mod WaySteps
pub mod WayBegins
pub mod Following
