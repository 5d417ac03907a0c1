-- What a corner keeps where rows have joined.
pub mod JoinedCandidates
pub mod AddedConsistent
pub mod PackedJoins
