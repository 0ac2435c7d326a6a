pub mod Numbers
pub mod OneOutcome
pub mod Records
pub mod RoundTrip
