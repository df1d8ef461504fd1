pub mod Delivery
pub mod Saying
pub mod Status
