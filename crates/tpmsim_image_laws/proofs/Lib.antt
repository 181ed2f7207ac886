pub mod Times
pub mod Answers
