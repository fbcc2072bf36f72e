-- Lemmas on ranges and runs.
pub mod RangeLemmas
pub mod RangeRowLemmas
pub mod RunLemmas
pub mod RunListLemmas
