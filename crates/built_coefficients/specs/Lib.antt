-- The search among stored and computed weights, as definitions: `Built` is the meaning, `Table` serves contracts of private functions.
pub mod Built
pub mod Table
