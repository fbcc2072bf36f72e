-- Lemmas on masks, on what they are made of and on their faults.
pub mod BitopLemmas
pub mod CachedLemmas
pub mod ConcatLemmas
pub mod ExcludedLemmas
pub mod FaultLemmas
pub mod FoldLemmas
pub mod GroupLemmas
pub mod MaskLemmas
pub mod MaskWalkLemmas
pub mod MergeLemmas
pub mod ReadingLemmas
pub mod SetRangeLemmas
pub mod SoundRangeLemmas
pub mod WithoutFirstLemmas
