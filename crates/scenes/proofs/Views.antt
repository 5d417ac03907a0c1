-- Views that are there and views that come: their places, and the problems with them.
pub mod ByNumber
pub mod NewViews
pub mod Places
pub mod ViewsCome
