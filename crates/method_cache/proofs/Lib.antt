pub mod RingLemmas
pub mod Suffix
