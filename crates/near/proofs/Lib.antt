pub mod CoverOwn
pub mod SiblingNear
pub mod StayPlan
pub mod StayWrites
pub mod PageLaws
pub mod Told
pub mod NearLaws
pub mod Promises
