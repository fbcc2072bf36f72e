-- Lemmas on lists of truth values and of indices, for this crate and for those above it.
pub mod BufferPartLemmas
pub mod DepositLawLemmas
pub mod DepositedWordLemmas
pub mod PlaceListLemmas
pub mod StartedWordLemmas
pub mod VariantLemmas
