pub mod Lending
pub mod Map
pub mod Memory
