-- Problems whose constants alone differ: what does not speak of constants.
pub mod SeenLines
pub mod SeenColumns
pub mod ShiftedLines
