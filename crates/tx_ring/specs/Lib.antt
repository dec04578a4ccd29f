pub mod Markup
pub mod Rings
