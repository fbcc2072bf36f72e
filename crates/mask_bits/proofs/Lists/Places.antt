-- Lemmas on the places of true values.
pub mod AscendingLemmas
pub mod HalfLemmas
pub mod IndexLemmas
pub mod PlaceLemmas
pub mod PushLemmas
pub mod ScanLemmas
pub mod SelectLemmas
