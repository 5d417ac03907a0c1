pub mod EachView
pub mod Texts
pub mod Printed
pub mod AttrNames
pub mod Told
