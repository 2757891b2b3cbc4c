-- Laws of the pairs and of the report: one pair or none, and the counts add up; the first pair that differs; the tally of one pair more; sorted
-- keys, crossing by crossing; the walk over them.
pub mod Counts
pub mod First
pub mod Tallied
pub mod Named
pub mod Walk
pub mod Walking
