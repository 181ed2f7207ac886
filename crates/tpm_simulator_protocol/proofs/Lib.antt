pub mod Ends
pub mod Sizes
pub mod Cutting
pub mod Serving
