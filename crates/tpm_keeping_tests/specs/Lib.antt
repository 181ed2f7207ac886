pub mod Echo
pub mod EchoLaws
