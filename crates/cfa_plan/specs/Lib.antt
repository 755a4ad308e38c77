pub mod OverlayChanges
pub mod OverlayLooks
pub mod Overlays
