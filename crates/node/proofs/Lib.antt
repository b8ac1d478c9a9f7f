pub mod RunWalk
pub mod Neighbours
pub mod FaultLaws
pub mod EntryNumber
pub mod NodeLaws
pub mod InPlace
pub mod Promises
