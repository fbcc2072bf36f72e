-- Lemmas.
pub mod Common
pub mod Deposits
mod Examples
pub mod Kernels
mod LawRows
pub mod Lists
pub mod Masks
pub mod ResultLemmas
