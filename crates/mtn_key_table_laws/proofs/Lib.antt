pub mod Decoding
pub mod OneReading
pub mod SomeReading
pub mod Given
