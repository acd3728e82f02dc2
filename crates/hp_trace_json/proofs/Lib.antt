pub mod Equal
pub mod Following
pub mod ListNumbers
pub mod Parts
pub mod PlainTexts
pub mod Splicing
pub mod Tellings
pub mod TokensPut
