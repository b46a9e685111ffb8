pub mod ChoosingLaws
pub mod StayLaws
pub mod StepLaws
pub mod OutcomeLaws
pub mod NumberLaws
pub mod TouchedLaws
pub mod SoundLaws
