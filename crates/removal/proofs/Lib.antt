pub mod PlanLaws
pub mod RemoveLaws
