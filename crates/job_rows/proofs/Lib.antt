pub mod CoresFound
pub mod OutputFound
pub mod RowsFound
