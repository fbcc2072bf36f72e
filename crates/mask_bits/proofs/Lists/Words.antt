-- Lemmas on lists by words, and on the bits of words.
pub mod BackingBitLemmas
pub mod BlockLemmas
pub mod ChosenWordLemmas
pub mod ExtractLemmas
pub mod FrontLemmas
pub mod GatherLemmas
pub mod LaneLemmas
pub mod LowestLemmas
pub mod PaddedLemmas
pub mod ShiftLemmas
pub mod TableLemmas
pub mod WalkLemmas
pub mod WideLaneLemmas
pub mod WordLemmas
