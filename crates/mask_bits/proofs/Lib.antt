-- Lemmas. Crates above may cite those of `Lists`, and what `Common` passes on, and no others.
mod AnswerLemmas
mod BoolsLemmas
mod BufferLemmas
mod BuilderLemmas
mod ByteLemmas
mod ByteRowLemmas
mod ChosenBitLemmas
mod CombineLemmas
pub mod Common
mod CompareLemmas
mod CountBeforeLemmas
mod Examples
mod FirstLemmas
mod KleeneLemmas
mod LawRows
mod LawRules
mod LeftLemmas
pub mod Lists
mod NullableBufferLemmas
mod NumberLemmas
mod PutIndicesLemmas
mod RunWalkLemmas
mod RunWordLemmas
mod SetBitLemmas
mod UncheckedLemmas
mod WindowLemmas
mod WriteLemmas
mod YieldLemmas
