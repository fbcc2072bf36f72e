-- Lemmas on deposits and on the bytes and bits of words.
pub mod ByteCountLemmas
pub mod ByteLemmas
pub mod DepositLemmas
pub mod HoleLemmas
pub mod LaneLemmas
pub mod LastByteLemmas
pub mod NetworkLemmas
pub mod NibbleLemmas
pub mod SelectionLemmas
pub mod SetPlaceLemmas
