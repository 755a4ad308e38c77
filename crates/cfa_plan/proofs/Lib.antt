pub mod OverlayPaths
pub mod OverlayCounts
pub mod OverlayNodes
pub mod OverlayLooks
pub mod OverlayChanges
