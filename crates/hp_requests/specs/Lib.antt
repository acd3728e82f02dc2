pub mod Echoes
pub mod FaultName
pub mod Files
pub mod Gives
pub mod Laws
pub mod Names
pub mod Words
pub mod Writes
