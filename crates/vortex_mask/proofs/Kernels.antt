-- Lemmas on the kernels and on the path that is taken.
pub mod DepositListLemmas
pub mod DrivenLemmas
pub mod PathLemmas
pub mod RankBlockLemmas
pub mod RankRunLemmas
pub mod RankWordLemmas
pub mod StepLemmas
pub mod WordKernelLemmas
