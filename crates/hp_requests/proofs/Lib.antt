pub mod AddressSpelled
pub mod Hex
pub mod PathSpelled
pub mod Slash
