pub mod Program
pub mod Workers
