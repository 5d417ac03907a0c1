pub mod Settled
pub mod Safe
pub mod Known
