pub mod StepTexts
pub mod Sayable
pub mod ReadBack
