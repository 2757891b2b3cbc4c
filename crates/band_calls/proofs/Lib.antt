-- Laws of band calls.
pub mod Accepted
pub mod Post
pub mod LastRow
pub mod SameBands
