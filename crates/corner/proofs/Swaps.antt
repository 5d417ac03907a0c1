-- What a corner keeps after an exchange of two lines, or a turn of one.
pub mod CandidatesAfter
pub mod NextConsistent
pub mod SettledNext
