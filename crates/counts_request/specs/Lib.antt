-- The request of the program `luma_counts`. `Reply` is the meaning; `Puts` serves the contracts of the smaller functions.
pub mod Reply
pub mod Puts
