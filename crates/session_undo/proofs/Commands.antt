-- What the commands of a session come to, and which cause of a refusal comes first.
pub mod Carried
pub mod Chains
pub mod Diagnosed
pub mod Drafts
pub mod Ends
pub mod Explained
pub mod LeavingSteps
pub mod LineStops
pub mod Resolved
pub mod Rooms
pub mod SizeSteps
pub mod Steps
pub mod SuggestionSteps
pub mod Swept
pub mod TreeChains
pub mod TreeInstances
pub mod TreeLimits
