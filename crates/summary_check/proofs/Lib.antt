-- The laws: of the test as a loop takes it, and of what the check means.
pub mod Tests
pub mod Checked
