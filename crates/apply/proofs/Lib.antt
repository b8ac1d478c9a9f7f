pub mod LoopLaws
pub mod PlanLaws
pub mod LevelsApart
pub mod ReadyLaws
