pub mod DigitLemmas
pub mod Examples
pub mod MisfitLemmas
