pub mod RowAfter
