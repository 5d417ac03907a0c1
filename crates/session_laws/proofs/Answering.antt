-- With room each line is answered.
pub mod FirstBlocks
pub mod FirstFits
pub mod SteepUnfit
pub mod Sweeps
pub mod LoneFits
pub mod Drafts
pub mod Lines
pub mod FirstSession
pub mod LoneSessions
pub mod BoundLines
pub mod BoundsFit
pub mod BoundRemovals
pub mod MiddleRemovals
pub mod Questions
