-- Laws of requests.
pub mod Checked
pub mod Output
pub mod Call
pub mod Post
pub mod Answers
pub mod Reading
pub mod Reply
