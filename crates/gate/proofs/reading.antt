-- Laws of the promise of reading, segment after segment.
-- Assumes nothing.
pub mod Laws
pub mod Passing
pub mod Numbers
pub mod Once
pub mod Moved
pub mod RowOfSE
pub mod LastSegment
pub mod ElementTexts
pub mod Reference
pub mod SideBySide
pub mod Blaming
pub mod Listing
