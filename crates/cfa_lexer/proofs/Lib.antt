pub mod FrontTokens
pub mod Lengths
pub mod ScanSteps
pub mod Symbols
