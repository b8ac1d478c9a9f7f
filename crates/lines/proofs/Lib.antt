pub mod ColumnLaws
pub mod RequestLaws
pub mod ReplyLaws
pub mod ReadLaws
pub mod WriteLaws
pub mod Promises
pub mod Checks
