pub mod Mapped
pub mod ShapeTexts
