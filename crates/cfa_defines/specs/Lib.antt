pub mod OwnTexts
pub mod Items
pub mod FirstMaybe
pub mod VarsPromises
pub mod ClassPromises
pub mod Builds
pub mod SeenRaises
pub mod OfTheCode
