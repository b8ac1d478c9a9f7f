pub mod RootLaws
pub mod PathFacts
pub mod LevelLaws
