pub mod FullTrees
pub mod LevelSteps
pub mod MatchVariables
pub mod Orders
pub mod CubeTrees
