pub mod RangeLaws
pub mod SummaryLaws
pub mod FillLaws
pub mod ChainLaws
pub mod WalkLaws
pub mod StandLaws
pub mod FillWalk
pub mod Promises
