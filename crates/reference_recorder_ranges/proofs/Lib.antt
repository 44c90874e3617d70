pub mod BlocksAbove
pub mod HeldRanges
pub mod OneSize
pub mod Origins
pub mod RangesBelow
pub mod Scanned
