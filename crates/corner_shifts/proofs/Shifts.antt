-- What a corner keeps where a row's constant changes and values grow with it.
pub mod ShiftCosts
pub mod ShiftGrowths
pub mod ShiftValues
pub mod ShiftKept
pub mod ShiftTables
pub mod GrownSlots
pub mod GrownLists
pub mod GrownInside
pub mod GrownRows
