pub mod Reading
pub mod Streams
pub mod Cuts
pub mod Ends
pub mod Talks
