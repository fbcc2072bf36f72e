-- What the laws say, by subject.
pub mod Boolean
pub mod Indices
pub mod Nullable
pub mod Parts
pub mod RankIntersection
pub mod Runs
pub mod Stacks
