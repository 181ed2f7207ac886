pub mod Request
pub mod Stream
pub mod Answer
pub mod Client
pub mod Run
