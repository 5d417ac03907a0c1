-- What leaves a scene: rows, views, and the problem that is left.
pub mod LeavingViews
pub mod LeavingProblems
pub mod LeavingScenes
