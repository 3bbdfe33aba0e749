pub mod Left
pub mod FrontMarks
pub mod Coming
pub mod WrittenText
pub mod FieldPlaces
