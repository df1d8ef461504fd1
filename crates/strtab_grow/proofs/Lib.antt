pub mod Parts
pub mod TextLaws
