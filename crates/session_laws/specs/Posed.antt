-- One problem at most is posed by a command.
pub mod Definite
pub mod Laws
pub mod Questions
