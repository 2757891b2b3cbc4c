-- The laws: of permutations and sorted lists, of one sorted list, of insertion, of std's sort, of keys.
pub mod Permuted
pub mod Unique
pub mod Insertion
pub mod ByStd
pub mod Keys
