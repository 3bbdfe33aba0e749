pub mod Generator
pub mod Made
pub mod Making
pub mod SampleText
