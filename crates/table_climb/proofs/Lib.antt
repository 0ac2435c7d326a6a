pub mod Fold
pub mod Next
pub mod Answers
